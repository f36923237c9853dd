use Rattle.std.proofs.Common.{length, map, get_or, ap, refl, ◌∙◌, arith}
use Rattle.std.specs.Arc.{arc_value}
use Rattle.std.proofs.lemmas.List.{length-map}
use Rattle.pg_config.specs.Parts.{Source}
use Rattle.pg_session.specs.Events.{announced_at, config_of}
use Rattle.pg_session.proofs.Changing.{part_there}
use Rattle.pg_session.proofs.Preparing.{prepared_next, rising_few, rising_within}
use Rattle.pg_session.proofs.copying.copy_parts.Goals as goal

pub loop-place-preserved : goal.loop-place-preserved
loop-place-preserved c =
    let config = c.args.config.now in
    let k = c.loop-place.place-index in
    let i = get_or c.args.places.now k 0 in
    let within = rising_within 0 _ c.args.places.now c.requires.rising k 0 c.loop-place-test.true in
    let there = part_there arc_value c.config.inside.parts.items i c.index.result.now config.parts (arc_value c.index.result.now)
    (ap (λ (s : Source). s.parts) c.config.view_is) within c.index.ensures refl in (
      prepared_next config c.args.places.now k (arc_value c.index.result.now) (map arc_value c.loop-place.configs.items) (map arc_value c.prepare_config.new.configs.items)
          (map config_of (announced_at config c.args.places.now)) c.loop-place-test.true there c.in_ok-prepare_config.ensures.prepared c.loop-place.invariant.0,
      (let long = c.in_ok-prepare_config.ensures.long in omega (arith, long, c.loop-place.invariant.1)),
      c.prepare_config.ensures.capacity ∙ c.loop-place.invariant.2,
    )

pub prepare_config-requires : goal.prepare_config-requires
prepare_config-requires c = record {
  room = omega (arith, rising_few 0 _ c.args.places.now c.requires.rising (omega (arith, c.loop-place-test.true)), c.count-count.ensures.keeps.few, c.loop-place.invariant.1, c.loop-place.invariant.2, c.requires.room, c.loop-place-test.true);
}

pub index-requires : goal.index-requires
index-requires c =
    let within = rising_within 0 _ c.args.places.now c.requires.rising c.loop-place.place-index 0 c.loop-place-test.true in
    let parts = ap (λ (s : Source). length s.parts) c.config.view_is in
    let known = length-map c.config.inside.parts.items arc_value in
    let len = c.config.inside.parts.ok.0 in
    omega (arith, within, parts, known, len)
