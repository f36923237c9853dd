use Rattle.pg_ingest.proofs.Past.{told-own}
use Rattle.pg_ingest.proofs.laws.told_is_own.Goals as goal

pub returns : goal.returns
returns c = told-own
