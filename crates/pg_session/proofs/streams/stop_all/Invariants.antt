use Rattle.std.proofs.Common.{◌≡◌, ◌++◌, map, take, drop}
use Rattle.pg_session.specs.Private.{stopped}
use Rattle.pg_session.specs.Kept.{by_slots, by_gaps}
use Rattle.pg_session.proofs.streams.stop_all.Given as goal

abbrev pub invariant-loop-s : goal.invariant-loop-s
invariant-loop-s l = l.streams ≡ map (stopped by_slots by_gaps) (take l.s-index l.fn.streams) ++ drop l.s-index l.fn.streams
