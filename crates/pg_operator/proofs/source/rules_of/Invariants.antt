use Rattle.std.proofs.Common.{◌≡◌, drop, map, None}
use Rattle.std.specs.Prelude.{option_map}
use Rattle.pg_operator.specs.Setups.{bit, told}
use Rattle.pg_operator.proofs.Sources.{goes_on}
use Rattle.pg_operator.proofs.source.rules_of.Given as goal

abbrev pub invariant-pmus : goal.invariant-pmus
invariant-pmus l = record {
  silence : goes_on (λ p. p.silence) l.source l.silence (map told (drop l.pmu-index l.pmus)) ≡ goes_on (λ p. p.silence) l.source None (map told l.pmus);
  clock : goes_on (λ p. p.clock_ms) l.source l.clock_ms (map told (drop l.pmu-index l.pmus)) ≡ goes_on (λ p. p.clock_ms) l.source None (map told l.pmus);
  ahead : goes_on (λ p. p.ahead_ms) l.source l.ahead_ms (map told (drop l.pmu-index l.pmus)) ≡ goes_on (λ p. p.ahead_ms) l.source None (map told l.pmus);
  first : goes_on (λ p. option_map bit p.prefer_first) l.source l.first (map told (drop l.pmu-index l.pmus)) ≡ goes_on (λ p. option_map bit p.prefer_first) l.source None (map told l.pmus);
}
