use Rattle.pg_shared.proofs.Sessions.{served_as, served_hung_up, does_hang_up, does_not_hang_up}
use Rattle.pg_shared.proofs.serve.serve_session.Goals as goal

pub returns-in-Closed-clause-served : goal.returns-in-Closed-clause-served
returns-in-Closed-clause-served g c =
    served_hung_up c.serve_turns-end.result _ _ _ _ _ _ _ _ _ c.hang_up.ensures.posted.0 c.serve_turns-end.ensures.ran c.serve_turns-end.ensures.given
    (does_hang_up _ c.in-Closed.is) c.hang_up.ensures.posted.1

pub returns-in-Quiet-clause-served : goal.returns-in-Quiet-clause-served
returns-in-Quiet-clause-served g c =
    served_as c.serve_turns-end.result _ _ _ _ _ _ _ _ c.serve_turns-end.ensures.ran c.serve_turns-end.ensures.given
    (does_not_hang_up _ c.in-Quiet.is)

pub returns-in-Closed-clause-onward : goal.returns-in-Closed-clause-onward
returns-in-Closed-clause-onward g c = g.met.G.Gate.joins _ _ _ c.serve_turns-end.ensures.onward c.hang_up.ensures.onward
