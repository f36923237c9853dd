use Rattle.std.proofs.Common.{◌≡◌, drop}
use Rattle.pg_operator.specs.Made.{added_in}
use Rattle.pg_operator.proofs.shown.added_in.Given as goal

abbrev pub invariant-loop-edit : goal.invariant-loop-edit
invariant-loop-edit l = added_in (drop l.edit-index l.edits) ≡ added_in l.edits
