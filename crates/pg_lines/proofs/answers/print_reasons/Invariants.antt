use Rattle.std.proofs.Common.{take}
use Rattle.std.specs.Io.KnownBytes.{Appends}
use Rattle.pg_lines.specs.Printing.{reasons_from}
use Rattle.pg_lines.proofs.answers.print_reasons.Given as goal

abbrev pub invariant-loop-number : goal.invariant-loop-number
invariant-loop-number g l = Appends (g.W.Write.contents l.fn.out) (g.W.Write.contents l.out) (reasons_from 0 (take l.number l.by_reason))
