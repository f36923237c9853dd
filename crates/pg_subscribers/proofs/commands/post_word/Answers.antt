use Rattle.std.proofs.Common.{refl, inl}
use Rattle.pg_session.specs.Events.{command}
use Rattle.pg_gateway.proofs.Taken.{posts_asked}
use Rattle.pg_subscribers.proofs.Own.{own_one}
use Rattle.pg_subscribers.proofs.commands.post_word.Goals as goal

pub returns : goal.returns
returns g c =
    let posted = posts_asked (g.G.Gate.takes c.args.gate.now) (g.met.G.Gate.frames c.args.gate.now) c.args.sub (command _ _) _ _ _ c.post.ensures.posted in
    record { own = own_one _ _ _ _ posted (inl (command _ _, refl)) }
