use Rattle.std.proofs.Common.{◌≡◌, ◌∙◌, Some, sym, ap, subst}
use Rattle.std.specs.Option.{option_and_then}
use Rattle.pg_registry.specs.Registered.{Pmu, pmu_at}
use Rattle.pg_registry.proofs.Lists.{at_place}
use Rattle.pg_registry.proofs.registry.Registry.config_at.Goals as goal

pub returns-clause-keyed : goal.returns-clause-keyed
returns-clause-keyed c key found =
    let there = subst (λ ps. pmu_at ps c.args.place ≡ Some c.index.result.now) c.self.view_is c.index.ensures in
    c.config.ensures ∙ ap (λ o. option_and_then (λ (pmu : Pmu). pmu.config) o) (sym (at_place c.args.self.now key c.args.place found ∙ there))
