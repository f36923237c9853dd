use Rattle.pg_registry.proofs.Staying.{apart-none, apart-added, apart-changed, apart-dropped}
use Rattle.pg_registry.proofs.laws.keys_stay_apart.Goals as goal

pub returns-clause-none : goal.returns-clause-none
returns-clause-none c = apart-none

pub returns-clause-added : goal.returns-clause-added
returns-clause-added c = apart-added

pub returns-clause-changed : goal.returns-clause-changed
returns-clause-changed c = apart-changed

pub returns-clause-dropped : goal.returns-clause-dropped
returns-clause-dropped c = apart-dropped
