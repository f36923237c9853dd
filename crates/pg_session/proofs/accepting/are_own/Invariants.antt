use Rattle.std.proofs.Common.{drop}
use Rattle.pg_session.specs.Events.{announced_at}
use Rattle.pg_session.specs.Ready.{AreOwn}
use Rattle.pg_session.proofs.accepting.are_own.Given as goal

abbrev pub invariant-loop-place : goal.invariant-loop-place
invariant-loop-place l =
    (AreOwn l.grants (announced_at l.config l.places) → AreOwn l.grants (announced_at l.config (drop l.place-index l.places)))
    × (AreOwn l.grants (announced_at l.config (drop l.place-index l.places)) → AreOwn l.grants (announced_at l.config l.places))
