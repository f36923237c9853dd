use Rattle.std.proofs.Common.{ap}
use Rattle.pg_subscribers.proofs.Own.{own_as}
use Rattle.pg_subscribers.proofs.Running.{ran_as}
use Rattle.pg_subscribers.proofs.connection.SubscriberConnection.hand_out.Goals as goal

pub returns-clause-own : goal.returns-clause-own
returns-clause-own g c = own_as _ _ _ _ (ap (λ v. v.session.sub) c.self.view_is) c.drain_once_and_on-end.ensures.own

pub returns-clause-ran : goal.returns-clause-ran
returns-clause-ran g c = λ r. ran_as _ _ _ _ _ _ _ _ _ (ap (λ v. v.session) c.self.view_is) (c.drain_once_and_on-end.ensures.ran r)
