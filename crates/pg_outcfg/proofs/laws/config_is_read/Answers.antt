use Rattle.pg_outcfg.proofs.Reading.{cfg1-read, cfg2-read}
use Rattle.pg_outcfg.proofs.laws.config_is_read.Goals as goal

pub returns-clause-cfg1 : goal.returns-clause-cfg1
returns-clause-cfg1 c = cfg1-read

pub returns-clause-cfg2 : goal.returns-clause-cfg2
returns-clause-cfg2 c = cfg2-read
