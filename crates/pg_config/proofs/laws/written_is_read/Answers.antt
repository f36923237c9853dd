use Rattle.pg_config.proofs.Written.{written-read}
use Rattle.pg_config.proofs.laws.written_is_read.Goals as goal

pub returns : goal.returns
returns c = written-read
