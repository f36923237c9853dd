use Rattle.std.proofs.Common.{◌≡◌, length}
use Rattle.std.specs.Arc.{arc_value}
use Rattle.pg_session.proofs.Putting.{PutSoFar}
use Rattle.pg_session.proofs.listing.put_ready.Given as goal

abbrev pub invariant-loop-copy : goal.invariant-loop-copy
invariant-loop-copy l =
    PutSoFar arc_value l.config l.places l.fn.listed l.configs.items l.listed × (l.configs.capacity ≡ l.fn.configs.capacity)

abbrev pub decreases-loop-copy : goal.decreases-loop-copy
decreases-loop-copy l = length l.configs.items
