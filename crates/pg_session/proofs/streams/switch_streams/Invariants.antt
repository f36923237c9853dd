use Rattle.std.proofs.Common.{◌≡◌, ◌++◌, map, take, drop}
use Rattle.pg_session.specs.Private.{at_stream, switched}
use Rattle.pg_session.specs.Kept.{by_slots, by_gaps}
use Rattle.pg_session.proofs.streams.switch_streams.Given as goal

abbrev pub invariant-loop-s : goal.invariant-loop-s
invariant-loop-s l =
    l.streams ≡ map (at_stream by_slots by_gaps l.number (switched by_slots by_gaps l.word)) (take l.s-index l.fn.streams) ++ drop l.s-index l.fn.streams
