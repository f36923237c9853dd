use Rattle.pg_ingest.proofs.Past.{told_of-only}
use Rattle.pg_ingest.proofs.laws.told_is_a_function.Goals as goal

pub returns : goal.returns
returns c = told_of-only
