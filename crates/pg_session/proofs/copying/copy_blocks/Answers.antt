use Rattle.std.proofs.Common.{◌≡◌, true, false, sym, ◌∙◌, subst, arith}
use Rattle.std.specs.Arc.{arc_value}
use Rattle.pg_data.specs.Measurements.{Measurement, IsMeasurement}
use Rattle.pg_session.specs.Events.{samples_at}
use Rattle.pg_session.specs.Wanted.{all_wanted}
use Rattle.pg_session.proofs.Preparing.{places_few, places_within, wanted_next, none_of}
use Rattle.pg_session.proofs.copying.copy_blocks.Goals as goal

pub prepare_copies-requires-clause-places : goal.prepare_copies-requires-clause-places
prepare_copies-requires-clause-places c = places_within _ c.args.places.now c.requires.places

pub prepare_copies-requires-clause-room : goal.prepare_copies-requires-clause-room
prepare_copies-requires-clause-room c =
    let keeps : IsMeasurement (arc_value c.args.frame.now) = subst IsMeasurement c.deref.ensures c.count-count.ensures.keeps in
    omega (arith, places_few _ c.args.places.now c.requires.places, keeps.config.few, c.loop-s.invariant.1, c.loop-s.invariant.2, c.requires.room, c.requires.streams, c.loop-s-test.true)

pub returns-in_err-prepare_copies-clause-needless : goal.returns-in_err-prepare_copies-clause-needless
returns-in_err-prepare_copies-clause-needless c = λ empty.
    let m : Measurement = arc_value c.args.frame.now in
    let samples = samples_at m c.args.places.now in
    let none = none_of c.args.streams.now c.loop-s.s-index c.s-item.result m.quality samples c.loop-s.blocks.items (all_wanted c.args.streams.now m.quality samples)
    c.loop-s-test.true (sym c.s-item.is) c.loop-s.invariant.0 empty in
    absurd (let never : false ≡ true = c.in_err-prepare_copies.ensures.needless none in cc never)

pub loop-s-preserved : goal.loop-s-preserved
loop-s-preserved c =
    let m : Measurement = arc_value c.args.frame.now in
    let samples = samples_at m c.args.places.now in
    let keeps : IsMeasurement (arc_value c.args.frame.now) = subst IsMeasurement c.deref.ensures c.count-count.ensures.keeps in (
      wanted_next c.args.streams.now c.loop-s.s-index c.s-item.result m.quality samples c.loop-s.blocks.items c.prepare_copies.new.blocks.items
          (all_wanted c.args.streams.now m.quality samples) c.loop-s-test.true (sym c.s-item.is) c.in_ok-prepare_copies.ensures.prepared c.loop-s.invariant.0,
      omega (arith, places_few _ c.args.places.now c.requires.places, keeps.config.few, c.prepare_copies.ensures.few, c.loop-s.invariant.1),
      c.prepare_copies.ensures.capacity ∙ c.loop-s.invariant.2,
    )
