use Rattle.std.proofs.Common.{◌≡◌, ℕ, List, Option}
use Rattle.pg_service.specs.Posts.{OwnOnly}
use Rattle.pg_shared.specs.Serving.{Ran}
use Rattle.pg_subscribers.specs.Endpoints.{HasHeard}
use Rattle.pg_subscribers.proofs.connection.drain_on.Given as goal

abbrev pub invariant-drains : goal.invariant-drains
invariant-drains g l = record {
  heard : HasHeard l.session;
  sub : l.session.sub ≡ l.fn.session.sub;
  own : OwnOnly l.fn.session.sub (g.G.Gate.posts l.fn.gate.gate) (g.G.Gate.posts l.gate.gate);
  ran : (r : Option (List ℕ)) → Ran l.fn.session l.session r r (g.W.Write.contents l.fn.writer) (g.W.Write.contents l.writer) (g.G.Gate.posts l.fn.gate.gate) (g.G.Gate.posts l.gate.gate);
}
