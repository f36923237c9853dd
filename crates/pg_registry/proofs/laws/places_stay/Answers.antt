use Rattle.pg_registry.proofs.Staying.{place-added, place-changed}
use Rattle.pg_registry.proofs.laws.places_stay.Goals as goal

pub returns-clause-added : goal.returns-clause-added
returns-clause-added c = place-added

pub returns-clause-changed : goal.returns-clause-changed
returns-clause-changed c = place-changed
