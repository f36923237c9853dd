use Rattle.pg_ingest.proofs.Serving.{served, fresh_told}
use Rattle.pg_ingest.proofs.Again.{again_all_told}
use Rattle.pg_ingest.proofs.laws.calls_serve_the_source.Goals as goal

pub returns-clause-served : goal.returns-clause-served
returns-clause-served c = served

pub returns-clause-fresh : goal.returns-clause-fresh
returns-clause-fresh c = fresh_told

pub returns-clause-again : goal.returns-clause-again
returns-clause-again c = again_all_told
