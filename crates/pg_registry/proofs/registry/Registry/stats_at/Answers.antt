use Rattle.std.proofs.Common.{◌≡◌, ◌∙◌, Some, sym, ap, subst}
use Rattle.std.specs.Option.{option_map}
use Rattle.pg_registry.specs.Registered.{Pmu, pmu_at}
use Rattle.pg_registry.proofs.Lists.{at_place}
use Rattle.pg_registry.proofs.registry.Registry.stats_at.Goals as goal

pub returns-clause-keyed : goal.returns-clause-keyed
returns-clause-keyed c key found =
    let there = subst (λ ps. pmu_at ps c.args.place ≡ Some c.index.result.now) c.self.view_is c.index.ensures in
    ap (λ o. option_map (λ (pmu : Pmu). pmu.stats) o) (at_place c.args.self.now key c.args.place found ∙ there) ∙ ap (λ stats. Some stats) (sym c.stats.ensures)
