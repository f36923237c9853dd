use Rattle.pg_outcfg.proofs.Joined.{joined-below, joined-leap, joined-code}
use Rattle.pg_outcfg.proofs.laws.quality_is_joined.Goals as goal

pub returns-clause-below : goal.returns-clause-below
returns-clause-below c = joined-below

pub returns-clause-leap : goal.returns-clause-leap
returns-clause-leap c = joined-leap

pub returns-clause-code : goal.returns-clause-code
returns-clause-code c = joined-code
