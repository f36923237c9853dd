use Rattle.std.proofs.Common.{◌≡◌, Some, inr, refl, sym, ap, subst, ◌∙◌}
use Rattle.std.specs.Prelude.{IfOk}
use Rattle.pg_replay.specs.Lines.{asked, text_asks}
use Rattle.pg_replay.proofs.LineLaws.{asked_text, asked_none}
use Rattle.pg_replay.proofs.lines.read_line.Goals as goal

pub returns-clause-found : goal.returns-clause-found
returns-clause-found c =
    let text = c.in-Ok.ensures.cases in
    let is = asked_text c.args.line.now (sym c.if-is_comment.ensures.value) text.1 ∙ ap text_asks (sym text.0) in
    subst (λ o. IfOk c.read_text.result (λ l. o ≡ Some (asked l))) (sym is) c.read_text.ensures.found

pub returns-in_default-clause-refused : goal.returns-in_default-clause-refused
returns-in_default-clause-refused c = inr (refl, asked_none c.args.line.now (sym c.if-is_comment.ensures.value) c.in_default.ensures.cases.0)
