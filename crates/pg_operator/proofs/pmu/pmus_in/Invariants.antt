use Rattle.std.proofs.Common.{◌≡◌, drop, map}
use Rattle.std.specs.Prelude.{option_map, ◌++◌}
use Rattle.toml.specs.View.{items_view}
use Rattle.pg_operator.specs.Setups.{each, pmu_in, told}
use Rattle.pg_operator.proofs.pmu.pmus_in.Given as goal

abbrev pub invariant-items : goal.invariant-items
invariant-items l =
    each pmu_in (items_view l.item-items) ≡ option_map (λ rest. map told l.pmus.items ++ rest) (each pmu_in (items_view (drop l.item-index l.item-items)))
