use Rattle.std.proofs.Common.{subst, [], ◌∷◌}
use Rattle.pg_session.specs.Events.{hangup}
use Rattle.pg_gateway.specs.GatewayEvents.{asks, told}
use Rattle.pg_gateway.specs.Posting.{Notes}
use Rattle.pg_gateway.proofs.Taken.{posts_asked}
use Rattle.pg_shared.proofs.serve.hang_up.Goals as goal

pub returns : goal.returns
returns g c = record {
  posted = (
    told c.post.result,
    subst (λ u. Notes (g.G.Gate.posts c.args.gate.now) (g.G.Gate.posts c.post.new.self) ((asks u hangup, told c.post.result) ∷ [])) c.sub.ensures.value
        (posts_asked (g.G.Gate.takes c.args.gate.now) (g.met.G.Gate.frames c.args.gate.now) c.sub.result hangup (told c.post.result) _ _ c.post.ensures.posted),
  );
  onward = c.post.ensures.goes_on;
}
