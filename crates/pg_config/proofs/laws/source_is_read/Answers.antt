use Rattle.pg_config.proofs.Sourcing.{source-read, source_body-in_bytes, source-is_frame}
use Rattle.pg_config.proofs.laws.source_is_read.Goals as goal

pub returns-clause-read : goal.returns-clause-read
returns-clause-read c = source-read

pub returns-clause-frame : goal.returns-clause-frame
returns-clause-frame c = λ base rate s is fits range. source-is_frame base rate s is fits (source_body-in_bytes base rate s range)
