use Rattle.pg_registry.proofs.Staying.{found-added, found-changed, found-dropped}
use Rattle.pg_registry.proofs.laws.others_stay.Goals as goal

pub returns-clause-added : goal.returns-clause-added
returns-clause-added c = found-added

pub returns-clause-changed : goal.returns-clause-changed
returns-clause-changed c = found-changed

pub returns-clause-dropped : goal.returns-clause-dropped
returns-clause-dropped c = found-dropped
