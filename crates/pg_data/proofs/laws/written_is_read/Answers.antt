use Rattle.pg_data.proofs.Spellings.{reads-back}
use Rattle.pg_data.proofs.laws.written_is_read.Goals as goal

pub returns : goal.returns
returns c = reads-back
