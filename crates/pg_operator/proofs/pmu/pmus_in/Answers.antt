use Rattle.std.proofs.Common.{rules, ap, refl, sym, inr, map, ◌≡◌, ◌∙◌, ◌++◌, [], ◌∷◌}
use Rattle.std.proofs.lemmas.List.{map-append}
use Rattle.toml.specs.View.{view}
use Rattle.pg_operator.specs.Setups.{pmu_in, told}
use Rattle.pg_operator.proofs.Lists.{all_read, items_listed, next_read, not_read, nothing_yet}
use Rattle.pg_operator.proofs.pmu.pmus_in.Goals as goal

pub items-init : goal.items-init
items-init c = nothing_yet pmu_in c.deref-item-items.result.now (map told c.new-pmus.result.items) (ap (map told) c.new-pmus.ensures.items)

pub returns-in_default-pmu_in-clause-err : goal.returns-in_default-pmu_in-clause-err
returns-in_default-pmu_in-clause-err c =
    inr (
      refl,
      items_listed pmu_in (view c.args.value.now) c.in-Some.items.now.items c.deref-item-items.result.now c.in-Some.ensures c.deref-item-items.ensures.value
          ∙ not_read pmu_in c.deref-item-items.result.now c.items.item-index c.item-item.result (map told c.items.pmus.items) _
          c.items-test.true c.item-item.is (sym c.in_default-pmu_in.ensures) c.items.invariant,
    )

pub items-preserved : goal.items-preserved
items-preserved c =
    let old = c.items.pmus.items in
    let p = c.in-Some-pmu_in.pmu in
    let grown : c.push.new.self.items ≡ old ++ p ∷ [] = search rules in
    next_read pmu_in c.deref-item-items.result.now c.items.item-index c.item-item.result (told p) (map told old) (map told c.push.new.self.items) _
    c.items-test.true c.item-item.is (sym c.in-Some-pmu_in.ensures) (ap (map told) grown ∙ map-append told old (p ∷ [])) c.items.invariant

pub returns-clause-ok : goal.returns-clause-ok
returns-clause-ok c =
    items_listed pmu_in (view c.args.value.now) c.in-Some.items.now.items c.deref-item-items.result.now c.in-Some.ensures c.deref-item-items.ensures.value
    ∙ all_read pmu_in c.deref-item-items.result.now c.items.item-index (map told c.items.pmus.items) _ c.items-test.false c.items.invariant
