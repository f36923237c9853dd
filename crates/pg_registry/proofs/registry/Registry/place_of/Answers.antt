use Rattle.std.proofs.Common.{◌≡◌, IfSome, subst}
use Rattle.pg_registry.specs.Registered.{pmu_at, pmu_of}
use Rattle.pg_registry.proofs.registry.Registry.place_of.Goals as goal

pub returns-clause-pmu : goal.returns-clause-pmu
returns-clause-pmu c = subst (λ ps. IfSome c.get_index_of.result (λ place. pmu_at ps place ≡ pmu_of ps c.args.key)) c.self.view_is c.get_index_of.ensures.value
