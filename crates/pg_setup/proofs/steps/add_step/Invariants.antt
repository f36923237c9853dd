use Rattle.std.proofs.Common.{◌≡◌, drop}
use Rattle.pg_setup.specs.Edits.{step_of}
use Rattle.pg_setup.proofs.Adding.{with_rest}
use Rattle.pg_setup.proofs.steps.add_step.Given as goal

abbrev pub invariant-edits : goal.invariant-edits
invariant-edits l =
    with_rest (step_of l.step l.old l.new) l.out.items (drop l.edit-index l.edits) ≡ with_rest (step_of l.step l.old l.new) l.fn.out.items l.edits
