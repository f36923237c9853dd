use Rattle.pg_ingest.proofs.Past.{told_of-append}
use Rattle.pg_ingest.proofs.laws.told_goes_on.Goals as goal

pub returns : goal.returns
returns c = told_of-append
