use Rattle.std.proofs.Common.{◌≡◌, ◌++◌, drop, filter}
use Rattle.pg_service.specs.Lasting.{is_of_sub}
use Rattle.pg_service.proofs.edits_in_force.edits_of.Given as goal

abbrev pub invariant-edits : goal.invariant-edits
invariant-edits l = l.found.items ++ filter (is_of_sub l.sub) (drop l.edit-index l.edits) ≡ filter (is_of_sub l.sub) l.edits
