use Rattle.pg_session.proofs.Running.{replies_append, full_may, state_append, handed_append}
use Rattle.pg_session.proofs.laws.runs_go_on.Goals as goal

pub returns : goal.returns
returns c = record { replies = replies_append; may = full_may; state = state_append; handed = handed_append }
