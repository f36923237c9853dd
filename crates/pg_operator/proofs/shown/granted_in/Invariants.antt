use Rattle.std.proofs.Common.{◌≡◌, ◌++◌, drop}
use Rattle.pg_operator.specs.Made.{granted_in}
use Rattle.pg_operator.proofs.shown.granted_in.Given as goal

abbrev pub invariant-edits : goal.invariant-edits
invariant-edits l = l.grants.items ++ granted_in (drop l.edit-index l.edits) ≡ granted_in l.edits
