use Rattle.pg_service.specs.Posts.{OwnOnly}
use Rattle.pg_subscribers.proofs.late_watch.LateWatch.look.Given as goal

abbrev pub invariant-places : goal.invariant-places
invariant-places g l = OwnOnly l.fn.sub (g.G.Gate.posts l.fn.gate) (g.G.Gate.posts l.gate)
