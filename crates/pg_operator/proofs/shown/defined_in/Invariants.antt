use Rattle.std.proofs.Common.{◌≡◌, ◌++◌, drop}
use Rattle.pg_operator.specs.Made.{defined_in}
use Rattle.pg_operator.proofs.shown.defined_in.Given as goal

abbrev pub invariant-edits : goal.invariant-edits
invariant-edits l = l.streams.items ++ defined_in (drop l.edit-index l.edits) ≡ defined_in l.edits
