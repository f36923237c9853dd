use Rattle.pg_command.proofs.Commands.{one-command}
use Rattle.pg_command.proofs.laws.one_command.Goals as goal

pub returns : goal.returns
returns c = one-command
