use Rattle.pg_gateway.proofs.RunLaws.{equal_states, equal_handed}
use Rattle.pg_gateway.proofs.laws.equal_views_leave_alike.Goals as goal

pub returns : goal.returns
returns c = record { states = equal_states; handed = equal_handed }
