use Rattle.std.proofs.Common.{sym, subst}
use Rattle.std.specs.Io.KnownBytes.{Appends}
use Rattle.pg_lines.proofs.PrintLaws.{appends_more, reasons_taken}
use Rattle.pg_lines.proofs.answers.print_reasons.Goals as goal

pub loop-number-preserved : goal.loop-number-preserved
loop-number-preserved g c =
    subst (λ t. Appends (g.W.Write.contents c.args.out.now) (g.W.Write.contents c.print_reason.new.out) t)
    (sym (reasons_taken c.args.by_reason.now c.loop-number.number 0 c.loop-number-test.true))
    (appends_more _ _ _ _ _ c.loop-number.invariant c.in_ok-print_reason.ensures.prints)
