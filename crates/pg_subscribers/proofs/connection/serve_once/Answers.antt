use Rattle.pg_subscribers.proofs.Own.{served_own, served_heard, served_sub}
use Rattle.pg_subscribers.proofs.Running.{served_ran}
use Rattle.pg_subscribers.proofs.connection.serve_once.Goals as goal

pub returns-clause-own : goal.returns-clause-own
returns-clause-own g c = served_own _ _ _ _ _ _ _ _ _ c.requires.heard c.serve_session.ensures.served

pub returns-clause-heard : goal.returns-clause-heard
returns-clause-heard g c = served_heard _ _ _ _ _ _ _ _ _ c.requires.heard c.serve_session.ensures.served

pub returns-clause-sub : goal.returns-clause-sub
returns-clause-sub g c = served_sub _ _ _ _ _ _ _ _ _ c.requires.heard c.serve_session.ensures.served

pub returns-clause-ran : goal.returns-clause-ran
returns-clause-ran g c = served_ran _ _ _ _ _ _ _ _ _ c.serve_session.ensures.served
