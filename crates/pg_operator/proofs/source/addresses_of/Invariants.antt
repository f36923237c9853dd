use Rattle.std.proofs.Common.{◌≡◌, drop, map, None, option_map}
use Rattle.pg_operator.specs.Setups.{called_values, told}
use Rattle.pg_operator.proofs.Sources.{with_left}
use Rattle.pg_operator.proofs.source.addresses_of.Given as goal

abbrev pub invariant-pmus : goal.invariant-pmus
invariant-pmus l =
    with_left l.source (option_map called_values l.addresses) (map told (drop l.pmu-index l.pmus)) ≡ with_left l.source None (map told l.pmus)
