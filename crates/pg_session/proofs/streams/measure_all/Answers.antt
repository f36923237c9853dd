use Rattle.std.proofs.Common.{◌≡◌, ◌++◌, length, drop, sym, subst, ◌∙◌, arith}
use Rattle.pg_data.specs.Pieces.{Piece}
use Rattle.pg_align.specs.Slots.{Aligned}
use Rattle.pg_session.specs.Events.{samples_at}
use Rattle.pg_session.specs.Streams.{StreamOf, effective_in, measure_turn}
use Rattle.pg_session.specs.Sending.{Sends}
use Rattle.pg_session.specs.Kept.{by_slots}
use Rattle.pg_session.specs.Fields.{with_stats, turn_stats}
use Rattle.pg_session.specs.Wanted.{wanted_of}
use Rattle.pg_session.proofs.Streaming.{behind_turns, stream_more, turn_more, wanted_next, wanted_front, wanted_rest, fitted_at}
use Rattle.pg_session.proofs.streams.measure_all.Goals as goal

pub measure-requires-clause-effective : goal.measure-requires-clause-effective
measure-requires-clause-effective c =
    let m = c.args.frame.now in
    let samples = samples_at m c.args.places.now in
    let turn = measure_turn by_slots c.args.listed.now m.soc m.quality m.frac samples in
    let x = c.s-item.result in
    let there = behind_turns turn c.args.streams.now c.loop-s.streams c.loop-s.s-index x c.loop-s-test.true c.loop-s.invariant.0 c.s-item.is in
    subst (λ (y : StreamOf (Aligned Piece)). y.slots.effective ≡ effective_in c.args.listed.now y.definition.members) c.s-item.is
    (fitted_at c.args.listed.now c.args.streams.now c.loop-s.s-index x c.requires.fitted c.loop-s-test.true there)

pub measure-requires-clause-ready : goal.measure-requires-clause-ready
measure-requires-clause-ready c =
    let m = c.args.frame.now in
    let samples = samples_at m c.args.places.now in
    let turn = measure_turn by_slots c.args.listed.now m.soc m.quality m.frac samples in
    let x = c.s-item.result in
    let there = behind_turns turn c.args.streams.now c.loop-s.streams c.loop-s.s-index x c.loop-s-test.true c.loop-s.invariant.0 c.s-item.is in
    let next = c.loop-s.invariant.4 ∙ wanted_next c.args.streams.now c.loop-s.s-index x m.quality samples c.loop-s-test.true there in
    subst (λ (y : StreamOf (Aligned Piece)). c.loop-s.blocks.items ≡ wanted_of y m.quality samples ++ drop (length (wanted_of y m.quality samples)) c.loop-s.blocks.items) c.s-item.is
    (wanted_front c.loop-s.blocks.items (wanted_of x m.quality samples) _ next)

pub loop-s-preserved : goal.loop-s-preserved
loop-s-preserved c =
    let m = c.args.frame.now in
    let samples = samples_at m c.args.places.now in
    let i = c.loop-s.s-index in
    let x = c.s-item.result in
    let before = c.loop-s.invariant in
    let turn = measure_turn by_slots c.args.listed.now m.soc m.quality m.frac samples in
    let there = behind_turns turn c.args.streams.now c.loop-s.streams i x c.loop-s-test.true before.0 c.s-item.is in
    let next = before.4 ∙ wanted_next c.args.streams.now i x m.quality samples c.loop-s-test.true there in
    let stream = subst (λ (y : StreamOf (Aligned Piece)). c.measure.new.self ≡ (turn y).stream) (sym c.s-item.is) c.measure.ensures.stream in
    let sent = subst (λ (y : StreamOf (Aligned Piece)). Sends (turn y).frames
    (with_stats c.loop-s.output (turn_stats (turn y) c.loop-s.output.output.stats)) c.measure.new.output) (sym c.s-item.is) c.measure.ensures.sends in
    let left = subst (λ (y : StreamOf (Aligned Piece)). c.measure.new.blocks.items ≡ drop (length (wanted_of y m.quality samples)) c.loop-s.blocks.items) (sym c.s-item.is) c.measure.ensures.blocks in (
      stream_more turn c.args.streams.now c.loop-s.streams i x c.measure.new.self c.loop-s-test.true before.0 c.s-item.is stream,
      turn_more turn c.args.streams.now c.loop-s.streams i x c.args.output.now c.loop-s.output c.measure.new.output c.loop-s-test.true before.0 c.s-item.is before.1 sent,
      omega (arith, before.2, sent.made, sent.kept, sent.few),
      omega (arith, before.3, c.measure.ensures.bounded),
      left ∙ wanted_rest c.loop-s.blocks.items (wanted_of x m.quality samples) _ next,
      c.measure.ensures.capacity ∙ before.5,
    )
