use Rattle.std.proofs.Common.{◌≡◌, drop}
use Rattle.pg_session.specs.Private.{stream_at}
use Rattle.pg_session.proofs.streams.stream_of.Given as goal

abbrev pub invariant-loop-s : goal.invariant-loop-s
invariant-loop-s l = stream_at l.streams l.number ≡ stream_at (drop l.s-index l.streams) l.number
