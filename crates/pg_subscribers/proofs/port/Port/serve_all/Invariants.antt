use Rattle.std.proofs.Common.{◌≡◌}
use Rattle.pg_service.specs.Posts.{OwnOnly}
use Rattle.pg_subscribers.proofs.port.Port.serve_all.Given as goal

abbrev pub invariant-passes : goal.invariant-passes
invariant-passes g l = record {
  sub : l.self.sub ≡ l.fn.self.sub;
  own : OwnOnly l.fn.self.sub (g.G.Gate.posts l.fn.gate.gate) (g.G.Gate.posts l.gate.gate);
}
