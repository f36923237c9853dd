use Rattle.std.proofs.Common.{◌∙◌, ◌≤◌, sym, ap, subst}
use Rattle.std.specs.Arc.{arc_value}
use Rattle.indexmap.specs.Layout.{set_value_at}
use Rattle.indexmap.proofs.CallerLemmas.{index_map_len-with_value_at}
use Rattle.pg_registry.specs.Registered.{has_key, announcing, changed}
use Rattle.pg_registry.proofs.Lists.{changed_at-set, changed_at-keyed, changed-absent, none_of}
use Rattle.pg_registry.proofs.registry.Registry.announce.Goals as goal

pub invariant_of-self : goal.invariant_of-self
invariant_of-self c = subst (λ n. n ≤ 256) (sym (index_map_len-with_value_at c.self.inside.pmus c.in-Some.place c.announce.new.self)) c.self.invariant

-- a write at the key's place is an announcement of the key
pub returns-in-Some-clause-list : goal.returns-in-Some-clause-list
returns-in-Some-clause-list c =
    let pmus = c.self.inside.pmus.entries in
    ap (λ pmu. set_value_at pmus c.in-Some.place pmu) c.announce.ensures
    ∙ changed_at-set (announcing (arc_value c.args.config)) c.in-Some.place pmus c.index_mut.result.now c.index_mut.ensures.value
    ∙ changed_at-keyed (announcing (arc_value c.args.config)) pmus c.args.key c.in-Some.place c.index_mut.result.now (sym c.in-Some.ensures.index) c.index_mut.ensures.value
    ∙ ap (λ ps. changed (announcing (arc_value c.args.config)) c.args.key ps) c.self.view_is

pub returns-in-None-clause-list : goal.returns-in-None-clause-list
returns-in-None-clause-list c =
    sym (changed-absent (announcing (arc_value c.args.config)) c.args.key c.args.self.now (none_of _ (sym (c.in-None.ensures.found ∙ ap (λ ps. has_key ps c.args.key) c.self.view_is))))
