use Rattle.std.proofs.Common.{◌≡◌, ◌++◌, ◌+◌, ◌*◌, ◌≤◌, map, take, drop}
use Rattle.pg_session.specs.Changing.{list_after}
use Rattle.pg_session.specs.Streams.{reshape_turn}
use Rattle.pg_session.specs.Kept.{by_slots}
use Rattle.pg_session.specs.Taking.{Taken}
use Rattle.pg_session.specs.Fields.{stream_after}
use Rattle.pg_session.proofs.streams.reshape_all.Given as goal

abbrev pub invariant-loop-s : goal.invariant-loop-s
invariant-loop-s l =
    (l.streams ≡ map (λ s. stream_after (reshape_turn by_slots l.listed (list_after l.listed l.change) s)) (take l.s-index l.fn.streams) ++ drop l.s-index l.fn.streams)
    × Taken (map (reshape_turn by_slots l.listed (list_after l.listed l.change)) (take l.s-index l.fn.streams)) l.fn.output l.output
    × (l.output.kept ≤ l.output.made)
    × (l.output.made ≤ l.fn.output.made + 80 * l.s-index)
