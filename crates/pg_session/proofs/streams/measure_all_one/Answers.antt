use Rattle.std.proofs.Common.{◌≡◌, ◌≤◌, ◌+◌, [], ◌∷◌, length, sym, subst, ◌∙◌, arith}
use Rattle.pg_data.specs.Pieces.{Piece}
use Rattle.pg_align.specs.Slots.{Aligned}
use Rattle.pg_session.specs.Events.{samples_at}
use Rattle.pg_session.specs.Streams.{StreamOf, effective_in, measure_turn}
use Rattle.pg_session.specs.Sending.{Sends}
use Rattle.pg_session.specs.Kept.{by_slots}
use Rattle.pg_session.specs.Fields.{kept_of, with_stats, turn_stats}
use Rattle.pg_session.proofs.Streaming.{behind_turns, stream_more, turn_more, fitted_at}
use Rattle.pg_session.proofs.OneBlock.{kept_next}
use Rattle.pg_session.proofs.streams.measure_all_one.Goals as goal

pub measure_one-requires-clause-effective : goal.measure_one-requires-clause-effective
measure_one-requires-clause-effective c =
    let m = c.args.frame.now in
    let turn = measure_turn by_slots c.args.listed.now m.soc m.quality m.frac (samples_at m (c.args.place ∷ [])) in
    let x = c.s-item.result in
    let there = behind_turns turn c.args.streams.now c.loop-s.streams c.loop-s.s-index x c.loop-s-test.true c.loop-s.invariant.0 c.s-item.is in
    subst (λ (y : StreamOf (Aligned Piece)). y.slots.effective ≡ effective_in c.args.listed.now y.definition.members) c.s-item.is
    (fitted_at c.args.listed.now c.args.streams.now c.loop-s.s-index x c.requires.fitted c.loop-s-test.true there)

pub measure_one-requires-clause-enough : goal.measure_one-requires-clause-enough
measure_one-requires-clause-enough c =
    let m = c.args.frame.now in
    let samples = samples_at m (c.args.place ∷ []) in
    let turn = measure_turn by_slots c.args.listed.now m.soc m.quality m.frac samples in
    let x = c.s-item.result in
    let there = behind_turns turn c.args.streams.now c.loop-s.streams c.loop-s.s-index x c.loop-s-test.true c.loop-s.invariant.0 c.s-item.is in
    let enough : kept_of x m.quality samples ≤ length c.loop-s.blocks.items =
    omega (arith, c.loop-s.invariant.5, kept_next c.args.streams.now c.loop-s.s-index x m.quality samples c.loop-s-test.true there) in
    subst (λ (y : StreamOf (Aligned Piece)). kept_of y m.quality samples ≤ length c.loop-s.blocks.items) c.s-item.is enough

pub loop-s-preserved : goal.loop-s-preserved
loop-s-preserved c =
    let m = c.args.frame.now in
    let samples = samples_at m (c.args.place ∷ []) in
    let i = c.loop-s.s-index in
    let x = c.s-item.result in
    let before = c.loop-s.invariant in
    let turn = measure_turn by_slots c.args.listed.now m.soc m.quality m.frac samples in
    let there = behind_turns turn c.args.streams.now c.loop-s.streams i x c.loop-s-test.true before.0 c.s-item.is in
    let stream = subst (λ (y : StreamOf (Aligned Piece)). c.measure_one.new.self ≡ (turn y).stream) (sym c.s-item.is) c.measure_one.ensures.stream in
    let sent = subst (λ (y : StreamOf (Aligned Piece)). Sends (turn y).frames
    (with_stats c.loop-s.output (turn_stats (turn y) c.loop-s.output.output.stats)) c.measure_one.new.output) (sym c.s-item.is) c.measure_one.ensures.sends in
    let left = subst (λ (y : StreamOf (Aligned Piece)). length c.loop-s.blocks.items ≤ length c.measure_one.new.blocks.items + kept_of y m.quality samples)
    (sym c.s-item.is) c.measure_one.ensures.left in (
      stream_more turn c.args.streams.now c.loop-s.streams i x c.measure_one.new.self c.loop-s-test.true before.0 c.s-item.is stream,
      turn_more turn c.args.streams.now c.loop-s.streams i x c.args.output.now c.loop-s.output c.measure_one.new.output c.loop-s-test.true before.0 c.s-item.is before.1 sent,
      omega (arith, before.2, sent.made, sent.kept, sent.few),
      omega (arith, before.3, c.measure_one.ensures.bounded),
      c.measure_one.ensures.copies,
      omega (arith, before.5, left, kept_next c.args.streams.now i x m.quality samples c.loop-s-test.true there),
      c.measure_one.ensures.capacity ∙ before.6,
    )
