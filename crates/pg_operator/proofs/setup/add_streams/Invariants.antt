use Rattle.std.proofs.Common.{◌≡◌, drop, map}
use Rattle.std.specs.Prelude.{◌++◌}
use Rattle.pg_gateway.specs.declared.edit.Edit.TheVariants.{Define}
use Rattle.pg_operator.proofs.setup.add_streams.Given as goal

abbrev pub invariant-streams : goal.invariant-streams
invariant-streams l = l.edits.items ++ map (Define l.sub) (drop l.definition-index l.streams) ≡ l.fn.edits.items ++ map (Define l.sub) l.streams
