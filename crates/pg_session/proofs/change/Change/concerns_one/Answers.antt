use Rattle.std.proofs.Common.{not, ap, sym, ◌∙◌}
use Rattle.pg_session.specs.Shape.{same_at}
use Rattle.pg_session.specs.Changing.{list_after}
use Rattle.pg_session.proofs.Changing.{keys_next, differs_first, passes_first}
use Rattle.pg_session.proofs.change.Change.concerns_one.Goals as goal

pub returns-then-concerns : goal.returns-then-concerns
returns-then-concerns c =
    let k = c.loop-place.place-index in
    let within = c.requires.places k 0 c.loop-place-test.true in
    let next = keys_next c.args.config.now c.key.result c.args.places.now k c.loop-place-test.true within c.key.ensures.source c.key.ensures.pmu in
    sym (ap not (c.loop-place.invariant ∙ ap (same_at c.args.listed.now (list_after c.args.listed.now c.args.self.now)) next
    ∙ differs_first c.args.listed.now (list_after c.args.listed.now c.args.self.now) c.key.result _ (sym c.concerns.ensures ∙ c.if-concerns.true)))

pub loop-place-preserved : goal.loop-place-preserved
loop-place-preserved c =
    let k = c.loop-place.place-index in
    let within = c.requires.places k 0 c.loop-place-test.true in
    let next = keys_next c.args.config.now c.key.result c.args.places.now k c.loop-place-test.true within c.key.ensures.source c.key.ensures.pmu in
    c.loop-place.invariant ∙ ap (same_at c.args.listed.now (list_after c.args.listed.now c.args.self.now)) next
    ∙ passes_first c.args.listed.now (list_after c.args.listed.now c.args.self.now) c.key.result _ (sym c.concerns.ensures ∙ c.if-concerns.false)
