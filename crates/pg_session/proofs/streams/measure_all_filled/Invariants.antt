use Rattle.std.proofs.Common.{◌≡◌, ◌++◌, ◌+◌, ◌*◌, ◌≤◌, map, take, drop}
use Rattle.pg_session.specs.Events.{samples_at}
use Rattle.pg_session.specs.Streams.{measure_turn}
use Rattle.pg_session.specs.Kept.{by_slots}
use Rattle.pg_session.specs.Taking.{Taken}
use Rattle.pg_session.specs.Fields.{stream_after}
use Rattle.pg_session.proofs.streams.measure_all_filled.Given as goal

abbrev pub invariant-loop-s : goal.invariant-loop-s
invariant-loop-s l =
    (l.streams ≡ map (λ s. stream_after (measure_turn by_slots l.listed l.frame.soc l.frame.quality l.frame.frac (samples_at l.frame l.places) s)) (take l.s-index l.fn.streams) ++ drop l.s-index l.fn.streams)
    × Taken (map (measure_turn by_slots l.listed l.frame.soc l.frame.quality l.frame.frac (samples_at l.frame l.places)) (take l.s-index l.fn.streams)) l.fn.output l.output
    × (l.output.kept ≤ l.output.made)
    × (l.output.made ≤ l.fn.output.made + 80 * l.s-index)
