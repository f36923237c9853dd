use Rattle.std.proofs.Common.{List, get_or, sym, ap, ◌∙◌, subst}
use Rattle.std.specs.Arc.{arc_value}
use Rattle.pg_config.specs.Parts.{Source, Part}
use Rattle.pg_data.specs.Measurements.{Measurement, IsMeasurement}
use Rattle.pg_session.specs.Events.{Sample}
use Rattle.pg_session.specs.Ready.{AreHeld}
use Rattle.pg_session.proofs.Changing.{part_there}
use Rattle.pg_session.proofs.Preparing.{sampled_next}
use Rattle.pg_session.proofs.accepting.are_held.Goals as goal

pub returns-then-not-is_held : goal.returns-then-not-is_held
returns-then-not-is_held c =
    let m = c.args.frame.now in
    let k = c.loop-place.place-index in
    let i = get_or c.args.places.now k 0 in
    let part : Part = c.deref-in-loop-place.result.now in
    let parts = ap (λ (s : Source). s.parts) (c.behind-frame.view_is ∙ c.deref.ensures) ∙ ap (λ (n : Measurement). n.config.parts) c.frame.view_is in
    let there = part_there arc_value c.behind-frame.inside.parts.items i c.index-config.result.now m.config.parts part parts
    (c.requires.places k 0 c.loop-place-test.true) c.index-config.ensures c.deref-in-loop-place.ensures in
    let keeps : IsMeasurement m = subst IsMeasurement c.frame.view_is c.frame.invariant.0 in
    let next = sampled_next m c.args.places.now k c.key.result part c.loop-place-test.true there (c.key.ensures.source ∙ keeps.source) c.key.ensures.pmu in (
      (λ h. absurd (cc h)),
      (λ h. absurd (let first = subst (λ (list : List Sample). AreHeld c.args.grants.now c.args.listed.now list) next (c.loop-place.invariant.0 h) in
          let held = c.is_held.ensures.1 (first.0, first.1) in
          cc (held, c.if-not-is_held.true))),
    )

pub loop-place-preserved : goal.loop-place-preserved
loop-place-preserved c =
    let m = c.args.frame.now in
    let k = c.loop-place.place-index in
    let i = get_or c.args.places.now k 0 in
    let part : Part = c.deref-in-loop-place.result.now in
    let parts = ap (λ (s : Source). s.parts) (c.behind-frame.view_is ∙ c.deref.ensures) ∙ ap (λ (n : Measurement). n.config.parts) c.frame.view_is in
    let there = part_there arc_value c.behind-frame.inside.parts.items i c.index-config.result.now m.config.parts part parts
    (c.requires.places k 0 c.loop-place-test.true) c.index-config.ensures c.deref-in-loop-place.ensures in
    let keeps : IsMeasurement m = subst IsMeasurement c.frame.view_is c.frame.invariant.0 in
    let next = sampled_next m c.args.places.now k c.key.result part c.loop-place-test.true there (c.key.ensures.source ∙ keeps.source) c.key.ensures.pmu in
    let held = c.is_held.ensures.0 c.if-not-is_held.false in (
      (λ h. (subst (λ (list : List Sample). AreHeld c.args.grants.now c.args.listed.now list) next (c.loop-place.invariant.0 h)).2),
      (λ h. c.loop-place.invariant.1 (subst (λ (list : List Sample). AreHeld c.args.grants.now c.args.listed.now list) (sym next) (held.0, held.1, h))),
    )
