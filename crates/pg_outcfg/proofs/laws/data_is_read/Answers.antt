use Rattle.pg_outcfg.proofs.Reading.{data-read}
use Rattle.pg_outcfg.proofs.laws.data_is_read.Goals as goal

pub returns : goal.returns
returns c = data-read
