use Rattle.std.proofs.Common.{◌≡◌, drop, map}
use Rattle.std.specs.Prelude.{◌++◌}
use Rattle.pg_operator.specs.Setups.{told}
use Rattle.pg_operator.proofs.pmu.keys_of.Given as goal

abbrev pub invariant-pmus : goal.invariant-pmus
invariant-pmus l = l.keys.items ++ map (λ p. p.key) (map told (drop l.pmu-index l.pmus)) ≡ map (λ p. p.key) (map told l.pmus)
