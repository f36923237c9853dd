use Rattle.pg_command.proofs.Commands.{written-frame, written-spelled, read-spelled}
use Rattle.pg_command.proofs.laws.written_is_read.Goals as goal

pub returns-clause-frame : goal.returns-clause-frame
returns-clause-frame c = written-frame

pub returns-clause-spelled : goal.returns-clause-spelled
returns-clause-spelled c = written-spelled

pub returns-clause-read : goal.returns-clause-read
returns-clause-read c = λ id soc word id_fits soc_fits word_fits. read-spelled _ _ (written-spelled id soc word id_fits soc_fits word_fits)
