use Rattle.std.proofs.Common.{refl, inl}
use Rattle.pg_session.specs.Events.{hangup}
use Rattle.pg_gateway.proofs.Taken.{posts_asked}
use Rattle.pg_subscribers.proofs.Own.{own_one}
use Rattle.pg_subscribers.proofs.connection.post_hangup.Goals as goal

pub returns : goal.returns
returns g c =
    let posted = posts_asked (g.G.Gate.takes c.args.gate.now) (g.met.G.Gate.frames c.args.gate.now) c.args.sub hangup _ _ _ c.post.ensures.posted in
    record { own = own_one _ _ _ _ posted (inl (hangup, refl)); asked = (_, posted) }
