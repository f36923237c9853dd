use Rattle.pg_config.proofs.Written.{written-spelled}
use Rattle.pg_config.proofs.laws.written_is_spelled.Goals as goal

pub returns : goal.returns
returns c = written-spelled
