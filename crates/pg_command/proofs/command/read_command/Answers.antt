use Rattle.std.proofs.Common.{sym, ◌∙◌, arith, IfOk, subst}
use Rattle.pg_command.specs.Spelling.{SpellsCommand}
use Rattle.pg_command.proofs.Commands.{read-spelled, command-spelled}
use Rattle.pg_command.proofs.command.read_command.Goals as goal

pub returns-clause-found : goal.returns-clause-found
returns-clause-found c = subst (λ r. IfOk r (SpellsCommand c.args.frame.now)) (sym c.command_in.ensures)
    (command-spelled c.args.frame.now c.requires (λ i. omega (arith, c.type_inv.frame i)))

pub returns-clause-only : goal.returns-clause-only
returns-clause-only c = λ command spelled. c.command_in.ensures ∙ read-spelled c.args.frame.now command spelled
