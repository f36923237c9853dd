use Rattle.std.proofs.Common.{◌≡◌, ◌∙◌, ◌≤◌, Some, sym, ap, subst}
use Rattle.indexmap.specs.Layout.{set_value_at}
use Rattle.indexmap.proofs.CallerLemmas.{index_map_len-with_value_at}
use Rattle.pg_registry.specs.Registered.{pmu_at, taking, changed_at}
use Rattle.pg_registry.proofs.Lists.{changed_at-set, changed_at-keyed}
use Rattle.pg_registry.proofs.registry.Registry.count_taken_at.Goals as goal

pub invariant_of-self : goal.invariant_of-self
invariant_of-self c = subst (λ n. n ≤ 256) (sym (index_map_len-with_value_at c.self.inside.pmus c.args.place c.count_taken.new.self)) c.self.invariant

-- what was written at the place is the PMU there, changed
pub returns-clause-list : goal.returns-clause-list
returns-clause-list c =
    let pmus = c.self.inside.pmus.entries in
    ap (λ pmu. set_value_at pmus c.args.place pmu) c.count_taken.ensures
    ∙ changed_at-set taking c.args.place pmus c.index_mut.result.now c.index_mut.ensures.value
    ∙ ap (λ ps. changed_at taking c.args.place ps) c.self.view_is

pub returns-clause-keyed : goal.returns-clause-keyed
returns-clause-keyed c key found =
    let there = subst (λ ps. pmu_at ps c.args.place ≡ Some c.index_mut.result.now) c.self.view_is c.index_mut.ensures.value in
    returns-clause-list c ∙ changed_at-keyed taking c.args.self.now key c.args.place c.index_mut.result.now found there
