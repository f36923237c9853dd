use Rattle.pg_record.proofs.Reading.{record_reads}
use Rattle.pg_record.proofs.laws.record_is_read.Goals as goal

pub returns : goal.returns
returns c = λ r body rest fits. record_reads r body rest fits
