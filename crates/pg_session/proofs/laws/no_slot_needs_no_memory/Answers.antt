use Rattle.pg_session.proofs.Running.{measured_quietly}
use Rattle.pg_session.proofs.laws.no_slot_needs_no_memory.Goals as goal

pub returns : goal.returns
returns c = record { reply = measured_quietly }
