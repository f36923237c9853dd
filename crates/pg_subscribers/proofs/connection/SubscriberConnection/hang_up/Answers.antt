use Rattle.std.proofs.Common.{ap, ◌∙◌}
use Rattle.pg_subscribers.proofs.Own.{own_as, asks_as}
use Rattle.pg_subscribers.proofs.connection.SubscriberConnection.hang_up.Goals as goal

pub returns : goal.returns
returns g c = record {
  own = own_as _ _ _ _ (c.sub.ensures.value ∙ ap (λ v. v.session.sub) c.self.view_is) c.post_hangup.ensures.own;
  asked = asks_as _ _ _ _ _ (c.sub.ensures.value ∙ ap (λ v. v.session.sub) c.self.view_is) c.post_hangup.ensures.asked;
}
