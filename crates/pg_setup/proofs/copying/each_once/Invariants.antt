use Rattle.std.proofs.Common.{◌≡◌, drop, []}
use Rattle.pg_setup.specs.Edits.{once_after}
use Rattle.pg_setup.proofs.copying.each_once.Given as goal

abbrev pub invariant-edits : goal.invariant-edits
invariant-edits l = once_after l.copies.items (drop l.edit-index l.edits) ≡ once_after [] l.edits
