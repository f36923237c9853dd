use Rattle.std.proofs.Common.{◌≡◌, drop, map}
use Rattle.std.specs.Prelude.{◌++◌}
use Rattle.pg_gateway.specs.declared.edit.Edit.TheVariants.{Grant}
use Rattle.pg_operator.proofs.setup.add_grants.Given as goal

abbrev pub invariant-keys : goal.invariant-keys
invariant-keys l = l.edits.items ++ map (Grant l.sub) (drop l.key-index l.keys) ≡ l.fn.edits.items ++ map (Grant l.sub) l.keys
