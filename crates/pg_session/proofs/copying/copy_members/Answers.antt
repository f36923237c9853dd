use Rattle.std.proofs.Common.{◌≡◌, true, false, ◌+◌, ◌++◌, IfSome, get_or, slice_get, drop, length, map, ap, sym, ◌∙◌, subst, arith}
use Rattle.std.specs.Arc.{arc_value}
use Rattle.pg_config.specs.Parts.{block_id}
use Rattle.pg_data.specs.Measurements.{Measurement, IsMeasurement}
use Rattle.pg_session.specs.Events.{samples_at}
use Rattle.pg_data.specs.Pieces.{piece_of}
use Rattle.pg_session.specs.Streams.{place_of, placed}
use Rattle.pg_session.specs.Wanted.{piece_of_placed}
use Rattle.pg_session.proofs.Arrivals.{placed_next}
use Rattle.pg_session.proofs.Preparing.{none_wanted, none_left}
use Rattle.pg_session.proofs.copying.copy_members.Goals as goal

pub loop-place-preserved : goal.loop-place-preserved
loop-place-preserved c =
    let m : Measurement = arc_value c.args.frame.now in
    let members = c.args.definition.now.members in
    let k = c.loop-place.place-index in
    let i = get_or c.args.places.now k 0 in
    let within = c.requires.places k 0 c.loop-place-test.true in
    let here = c.deref-in-loop-place.ensures in
    let keeps : IsMeasurement m = subst IsMeasurement c.deref.ensures c.count-count.ensures.keeps in
    let source = c.key-key.ensures.source ∙ ap (λ (n : Measurement). n.source) here in
    let pmu = subst (λ (n : Measurement). IfSome (slice_get n.config.parts i) (λ p. c.key-key.result.pmu ≡ block_id p.block)) here c.key-key.ensures.pmu in
    let next = placed_next m members c.args.places.now k c.key-key.result keeps c.loop-place-test.true within source pmu in
    let rest = placed members m.quality (samples_at m (drop (k + 1) c.args.places.now)) in (
      c.in_ok-prepare_block.ensures.prepared rest
          ∙ ap (λ ps. c.loop-place.blocks.items ++ map piece_of_placed ps) (sym next) ∙ c.loop-place.invariant.0,
      omega (arith, c.prepare_block.ensures.few, c.loop-place.invariant.1),
      omega (arith, c.prepare_block.ensures.grows, c.loop-place.invariant.2),
      c.prepare_block.ensures.capacity ∙ c.loop-place.invariant.3,
    )

pub returns-in_err-prepare_block-clause-needless : goal.returns-in_err-prepare_block-clause-needless
returns-in_err-prepare_block-clause-needless c = λ empty.
    let m : Measurement = arc_value c.args.frame.now in
    let members = c.args.definition.now.members in
    let k = c.loop-place.place-index in
    let i = get_or c.args.places.now k 0 in
    let within = c.requires.places k 0 c.loop-place-test.true in
    let here = c.deref-in-loop-place.ensures in
    let keeps : IsMeasurement m = subst IsMeasurement c.deref.ensures c.count-count.ensures.keeps in
    let source = c.key-key.ensures.source ∙ ap (λ (n : Measurement). n.source) here in
    let pmu = subst (λ (n : Measurement). IfSome (slice_get n.config.parts i) (λ p. c.key-key.result.pmu ≡ block_id p.block)) here c.key-key.ensures.pmu in
    let next = placed_next m members c.args.places.now k c.key-key.result keeps c.loop-place-test.true within source pmu in
    let here_left = placed members m.quality (samples_at m (drop k c.args.places.now)) in
    let left : length here_left ≡ 0 = none_left c.loop-place.blocks.items c.args.blocks.now.items here_left (placed members m.quality (samples_at m c.args.places.now))
    c.loop-place.invariant.0 empty c.loop-place.invariant.2 in
    let none = none_wanted here_left (placed members m.quality (samples_at m (drop (k + 1) c.args.places.now))) (place_of members c.key-key.result) (piece_of m i) next left in
    absurd (let never : false ≡ true = c.in_err-prepare_block.ensures.needless none in cc never)
