use Rattle.std.proofs.Common.{◌≡◌, get_or, true, false, sym, ap, ◌∙◌}
use Rattle.std.specs.Arc.{arc_value}
use Rattle.pg_wire.specs.Keys.{key_eq}
use Rattle.pg_config.specs.Parts.{Source}
use Rattle.pg_session.proofs.Changing.{place_found, place_passed, part_there}
use Rattle.pg_session.proofs.change.after_all.Goals as goal

pub returns-then-eq : goal.returns-then-eq
returns-then-eq c =
    let config = c.args.config.now in
    let k = c.loop-place.place-index in
    let i = get_or c.args.places.now k 0 in
    let within = c.requires.places k 0 c.loop-place-test.true in
    let there = part_there arc_value c.config.inside.parts.items i c.index.result.now config.parts c.deref.result.now
    (ap (λ (s : Source). s.parts) c.config.view_is) within c.index.ensures c.deref.ensures in
    let same : key_eq c.args.key.now c.key.result ≡ true = sym c.eq.ensures ∙ c.if-eq.true in
    sym (c.loop-place.invariant
    ∙ place_found config c.args.listed.now c.args.key.now c.key.result c.args.places.now k c.deref.result.now c.loop-place-test.true there c.key.ensures.source c.key.ensures.pmu same)

pub loop-place-preserved : goal.loop-place-preserved
loop-place-preserved c =
    let other : key_eq c.args.key.now c.key.result ≡ false = sym c.eq.ensures ∙ c.if-eq.false in
    c.loop-place.invariant
    ∙ place_passed c.args.config.now c.args.listed.now c.args.key.now c.key.result c.args.places.now c.loop-place.place-index c.loop-place-test.true
    c.key.ensures.source c.key.ensures.pmu other
