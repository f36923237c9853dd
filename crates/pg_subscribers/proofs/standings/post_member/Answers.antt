use Rattle.std.proofs.Common.{refl, inr}
use Rattle.pg_gateway.specs.GatewayEvents.{standing, inquires}
use Rattle.pg_service.proofs.Taken.{posts_other}
use Rattle.pg_subscribers.proofs.Own.{own_one}
use Rattle.pg_subscribers.proofs.standings.post_member.Goals as goal

pub returns : goal.returns
returns g c =
    let posted = posts_other (g.G.Gate.takes c.args.gate.now) (g.met.G.Gate.frames c.args.gate.now) (inquires (standing c.args.sub c.args.place)) (λ x. x) _ _ _ c.post-reply.ensures.posted in
    record { own = own_one _ _ _ _ posted (inr (_, refl)) }
