use Rattle.std.proofs.Common.{◌≡◌, map, drop}
use Rattle.pg_session.specs.Events.{announced_at}
use Rattle.pg_session.specs.Shape.{same_at}
use Rattle.pg_session.specs.Changing.{list_after}
use Rattle.pg_session.proofs.change.Change.concerns_one.Given as goal

abbrev pub invariant-loop-place : goal.invariant-loop-place
invariant-loop-place l =
    same_at l.listed (list_after l.listed l.self) (map (λ a. a.key) (announced_at l.config l.places))
    ≡ same_at l.listed (list_after l.listed l.self) (map (λ a. a.key) (announced_at l.config (drop l.place-index l.places)))
