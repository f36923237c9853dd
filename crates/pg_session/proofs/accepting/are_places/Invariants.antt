use Rattle.std.proofs.Common.{drop}
use Rattle.pg_session.specs.Ready.{AreRising}
use Rattle.pg_session.proofs.accepting.are_places.Given as goal

abbrev pub invariant-loop-place : goal.invariant-loop-place
invariant-loop-place l =
    (AreRising 0 l.count l.places → AreRising l.least l.count (drop l.place-index l.places))
    × (AreRising l.least l.count (drop l.place-index l.places) → AreRising 0 l.count l.places)
