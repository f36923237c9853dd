use Rattle.std.proofs.Common.{◌≡◌, Option, Some, None, option_map, refl, sym, ap, ◌∙◌}
use Rattle.pg_registry.specs.Registered.{Pmu, pmu_of}
use Rattle.pg_audit.specs.declared.counters.PmuStats.{PmuStats}
use Rattle.pg_gateway.proofs.AskLaws.{pmu_stats_some}
use Rattle.pg_gateway.proofs.state.GatewayState.pmu_stats.Goals as goal

record Counted (o : Option Pmu) (st : PmuStats) : Type 0 where
  pmu : Pmu
  there : o ≡ Some pmu
  same : st ≡ pmu.stats

counted : (o : Option Pmu) (st : PmuStats) → Some st ≡ option_map (λ (pmu : Pmu). pmu.stats) o → Counted o st
counted None st e = absurd (cc e)
counted (Some pmu) st e = record { pmu = pmu; there = refl; same = cc e }

pub returns-in-Some-clause-goes : goal.returns-in-Some-clause-goes
returns-in-Some-clause-goes c = λ S h.
    let shown = rw (← c.self.view_is) at h in
    let found = counted _ c.in-Some.stats.now c.in-Some.ensures.value in
    pmu_stats_some c.args.key S _ found.pmu _ h (ap (λ pmus. pmu_of pmus c.args.key) (sym shown.pmus) ∙ found.there) found.same
