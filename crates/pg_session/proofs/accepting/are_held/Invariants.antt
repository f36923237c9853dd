use Rattle.std.proofs.Common.{drop}
use Rattle.pg_session.specs.Events.{samples_at}
use Rattle.pg_session.specs.Ready.{AreHeld}
use Rattle.pg_session.proofs.accepting.are_held.Given as goal

abbrev pub invariant-loop-place : goal.invariant-loop-place
invariant-loop-place l =
    (AreHeld l.grants l.listed (samples_at l.frame l.places) → AreHeld l.grants l.listed (samples_at l.frame (drop l.place-index l.places)))
    × (AreHeld l.grants l.listed (samples_at l.frame (drop l.place-index l.places)) → AreHeld l.grants l.listed (samples_at l.frame l.places))
