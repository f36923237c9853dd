use Rattle.std.proofs.Common.{◌≡◌, ◌++◌, ◌+◌, ◌*◌, ◌≤◌, [], ◌∷◌, length, map, take, drop, replicate}
use Rattle.pg_data.specs.Pieces.{piece_of}
use Rattle.pg_session.specs.Events.{samples_at}
use Rattle.pg_session.specs.Streams.{measure_turn}
use Rattle.pg_session.specs.Kept.{by_slots}
use Rattle.pg_session.specs.Taking.{Taken}
use Rattle.pg_session.specs.Fields.{all_kept, stream_after}
use Rattle.pg_session.proofs.streams.measure_all_one.Given as goal

abbrev pub invariant-loop-s : goal.invariant-loop-s
invariant-loop-s l =
    (l.streams ≡ map (λ s. stream_after (measure_turn by_slots l.listed l.frame.soc l.frame.quality l.frame.frac (samples_at l.frame (l.place ∷ [])) s)) (take l.s-index l.fn.streams) ++ drop l.s-index l.fn.streams)
    × Taken (map (measure_turn by_slots l.listed l.frame.soc l.frame.quality l.frame.frac (samples_at l.frame (l.place ∷ []))) (take l.s-index l.fn.streams)) l.fn.output l.output
    × (l.output.kept ≤ l.output.made)
    × (l.output.made ≤ l.fn.output.made + 80 * l.s-index)
    × (l.blocks.items ≡ replicate (length l.blocks.items) (piece_of l.frame l.place))
    × (all_kept (drop l.s-index l.fn.streams) l.frame.quality (samples_at l.frame (l.place ∷ [])) ≤ length l.blocks.items)
    × (l.blocks.capacity ≡ l.fn.blocks.capacity)
