use Rattle.pg_config.proofs.Written.{written-read-as}
use Rattle.pg_config.proofs.laws.output_is_read.Goals as goal

pub returns : goal.returns
returns c = written-read-as
