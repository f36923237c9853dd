use Rattle.std.proofs.Common.{◌≡◌, drop, map}
use Rattle.pg_operator.specs.Setups.{once, source_value, sources_of, told}
use Rattle.pg_operator.proofs.Sources.{made}
use Rattle.pg_operator.proofs.source.sources_of.Given as goal

abbrev pub invariant-pmus : goal.invariant-pmus
invariant-pmus l =
    made (map told l.pmus) (map source_value l.sources.items) (once (map (λ p. p.key.source) (map told (drop l.pmu-index l.pmus)))) ≡ sources_of (map told l.pmus)
