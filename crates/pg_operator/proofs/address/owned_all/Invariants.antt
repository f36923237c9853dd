use Rattle.std.proofs.Common.{◌≡◌, drop, map}
use Rattle.std.specs.Prelude.{◌++◌}
use Rattle.std.specs.List.{filter_map}
use Rattle.toml.specs.View.{view}
use Rattle.pg_operator.specs.Addresses.{address_value}
use Rattle.pg_operator.specs.Setups.{address_in}
use Rattle.pg_operator.proofs.address.owned_all.Given as goal

abbrev pub invariant-values : goal.invariant-values
invariant-values l = map address_value l.own.items ++ filter_map (λ v. address_in (view v)) (drop l.value-index l.values) ≡ filter_map (λ v. address_in (view v)) l.values
