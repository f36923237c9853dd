use Rattle.std.proofs.Common.{◌≡◌, Some, None, inr, refl, sym, ap, subst, ◌∙◌}
use Rattle.std.specs.Prelude.{IfOk, IfSome, IfNone}
use Rattle.pg_lines.specs.Edits.{text_edit}
use Rattle.pg_lines.proofs.EditLaws.{edit_text, edit_none}
use Rattle.pg_lines.proofs.edits.read_edit.Goals as goal

pub returns-clause-edit : goal.returns-clause-edit
returns-clause-edit c =
    let text = c.in-Ok.ensures.cases in
    let is = edit_text c.args.line.now (sym c.if-is_comment.ensures.value) text.1 ∙ ap text_edit (sym text.0) in
    subst (λ o. IfOk c.read_text.result (λ found. IfSome found (λ edit. o ≡ Some (Some edit)))) (sym is) c.read_text.ensures.edit

pub returns-clause-nothing : goal.returns-clause-nothing
returns-clause-nothing c =
    let text = c.in-Ok.ensures.cases in
    let is = edit_text c.args.line.now (sym c.if-is_comment.ensures.value) text.1 ∙ ap text_edit (sym text.0) in
    subst (λ o. IfOk c.read_text.result (λ found. IfNone found (o ≡ Some None))) (sym is) c.read_text.ensures.nothing

pub returns-in_default-clause-refused : goal.returns-in_default-clause-refused
returns-in_default-clause-refused c = inr (refl, edit_none c.args.line.now (sym c.if-is_comment.ensures.value) c.in_default.ensures.cases.0)
