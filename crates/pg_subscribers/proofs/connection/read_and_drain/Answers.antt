use Rattle.pg_subscribers.proofs.Own.{own_more, own_as}
use Rattle.pg_shared.proofs.Sessions.{runs_join}
use Rattle.pg_subscribers.proofs.connection.read_and_drain.Goals as goal

pub returns-clause-own : goal.returns-clause-own
returns-clause-own g c = own_more _ _ _ _ c.serve_once-end.ensures.own (own_as _ _ _ _ c.serve_once-end.ensures.sub c.drain_on.ensures.own)

pub returns-clause-ran : goal.returns-clause-ran
returns-clause-ran g c = runs_join _ _ _ _ _ _ _ _ _ _ _ _ c.serve_once-end.ensures.ran (c.drain_on.ensures.ran _)
