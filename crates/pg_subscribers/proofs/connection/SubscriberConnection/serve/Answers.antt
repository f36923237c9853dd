use Rattle.std.proofs.Common.{ap}
use Rattle.pg_subscribers.proofs.Own.{own_as}
use Rattle.pg_subscribers.proofs.Running.{ran_as}
use Rattle.pg_subscribers.proofs.connection.SubscriberConnection.serve.Goals as goal

pub returns-clause-own : goal.returns-clause-own
returns-clause-own g c = own_as _ _ _ _ (ap (λ v. v.session.sub) c.self.view_is) c.read_and_drain-end.ensures.own

pub returns-clause-ran : goal.returns-clause-ran
returns-clause-ran g c = ran_as _ _ _ _ _ _ _ _ _ (ap (λ v. v.session) c.self.view_is) (c.read_and_drain-end.ensures.ran)
