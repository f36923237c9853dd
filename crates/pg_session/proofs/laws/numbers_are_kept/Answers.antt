use Rattle.pg_session.proofs.Running.{queue_called, fate_called}
use Rattle.pg_session.proofs.laws.numbers_are_kept.Goals as goal

pub returns : goal.returns
returns c = record { queue = queue_called; fate = fate_called }
