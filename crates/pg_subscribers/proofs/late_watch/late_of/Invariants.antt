use Rattle.pg_service.specs.Posts.{OwnOnly}
use Rattle.pg_subscribers.proofs.late_watch.late_of.Given as goal

abbrev pub invariant-members : goal.invariant-members
invariant-members g l = OwnOnly l.fn.sub (g.G.Gate.posts l.fn.gate) (g.G.Gate.posts l.gate)
