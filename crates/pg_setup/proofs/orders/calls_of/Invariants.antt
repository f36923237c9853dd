use Rattle.std.proofs.Common.{◌≡◌, drop, map}
use Rattle.std.specs.Prelude.{◌++◌}
use Rattle.pg_operator.specs.Setups.{source_value}
use Rattle.pg_setup.specs.Orders.{calls_of}
use Rattle.pg_setup.proofs.orders.calls_of.Given as goal

abbrev pub invariant-sources : goal.invariant-sources
invariant-sources l = map source_value l.calls.items ++ calls_of (map source_value (drop l.source-index l.sources)) ≡ calls_of (map source_value l.sources)
