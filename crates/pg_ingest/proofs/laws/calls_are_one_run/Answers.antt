use Rattle.pg_ingest.proofs.Serving.{first_call, next_call}
use Rattle.pg_ingest.proofs.laws.calls_are_one_run.Goals as goal

pub returns-clause-first : goal.returns-clause-first
returns-clause-first c = first_call

pub returns-clause-next : goal.returns-clause-next
returns-clause-next c = next_call
