use Rattle.std.proofs.lemmas.Result.{err_from_is_err_and}
use Rattle.pg_service.proofs.Ordered.{holds_of_fault, next_posted}
use Rattle.pg_service.proofs.edits.post_edits.Goals as goal

pub edits-preserved : goal.edits-preserved
edits-preserved g c = (tt, tt, next_posted _ _ _ _ _ _ _ c.in-Some.ensures.steps.0 c.edits.invariant.2 c.post_edit.ensures.posted)

pub returns-in_err-post_edit : goal.returns-in_err-post_edit
returns-in_err-post_edit g c =
    let p = err_from_is_err_and c.from_residual.result c.from_residual.ensures.1 in
    record { posted = (_, next_posted _ _ _ _ _ _ _ c.in-Some.ensures.steps.0 c.edits.invariant.2 c.post_edit.ensures.posted, holds_of_fault _ _ _ p.1) }
