use Rattle.pg_wire.proofs.Spelled.{ended-start}
use Rattle.pg_wire.proofs.laws.started_is_spelled.Goals as goal

pub returns : goal.returns
returns c = ended-start
