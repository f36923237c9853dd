use Rattle.pg_record.proofs.Reading.{head_reads}
use Rattle.pg_record.proofs.laws.block_head_is_read.Goals as goal

pub returns : goal.returns
returns c = λ h rest fits. head_reads h rest fits
