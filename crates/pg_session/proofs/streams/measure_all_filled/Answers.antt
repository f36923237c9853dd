use Rattle.std.proofs.Common.{◌≡◌, sym, subst, arith}
use Rattle.pg_data.specs.Pieces.{Piece}
use Rattle.pg_align.specs.Slots.{Aligned}
use Rattle.pg_session.specs.Events.{samples_at}
use Rattle.pg_session.specs.Streams.{StreamOf, effective_in, measure_turn}
use Rattle.pg_session.specs.Sending.{Sends}
use Rattle.pg_session.specs.Kept.{by_slots}
use Rattle.pg_session.specs.Fields.{NeedsNoCopy, with_stats, turn_stats}
use Rattle.pg_session.proofs.Streaming.{behind_turns, stream_more, turn_more, fitted_at}
use Rattle.pg_session.proofs.Filled.{needs_at}
use Rattle.pg_session.proofs.streams.measure_all_filled.Goals as goal

pub measure_filled-requires-clause-effective : goal.measure_filled-requires-clause-effective
measure_filled-requires-clause-effective c =
    let m = c.args.frame.now in
    let turn = measure_turn by_slots c.args.listed.now m.soc m.quality m.frac (samples_at m c.args.places.now) in
    let x = c.s-item.result in
    let there = behind_turns turn c.args.streams.now c.loop-s.streams c.loop-s.s-index x c.loop-s-test.true c.loop-s.invariant.0 c.s-item.is in
    subst (λ (y : StreamOf (Aligned Piece)). y.slots.effective ≡ effective_in c.args.listed.now y.definition.members) c.s-item.is
    (fitted_at c.args.listed.now c.args.streams.now c.loop-s.s-index x c.requires.fitted c.loop-s-test.true there)

pub measure_filled-requires-clause-filled : goal.measure_filled-requires-clause-filled
measure_filled-requires-clause-filled c =
    let m = c.args.frame.now in
    let samples = samples_at m c.args.places.now in
    let turn = measure_turn by_slots c.args.listed.now m.soc m.quality m.frac samples in
    let x = c.s-item.result in
    let there = behind_turns turn c.args.streams.now c.loop-s.streams c.loop-s.s-index x c.loop-s-test.true c.loop-s.invariant.0 c.s-item.is in
    subst (λ (y : StreamOf (Aligned Piece)). NeedsNoCopy y m.soc m.quality m.frac samples) c.s-item.is
    (needs_at c.args.streams.now c.loop-s.s-index x m.soc m.quality m.frac samples c.requires.filled c.loop-s-test.true there)

pub loop-s-preserved : goal.loop-s-preserved
loop-s-preserved c =
    let m = c.args.frame.now in
    let samples = samples_at m c.args.places.now in
    let i = c.loop-s.s-index in
    let x = c.s-item.result in
    let before = c.loop-s.invariant in
    let turn = measure_turn by_slots c.args.listed.now m.soc m.quality m.frac samples in
    let there = behind_turns turn c.args.streams.now c.loop-s.streams i x c.loop-s-test.true before.0 c.s-item.is in
    let stream = subst (λ (y : StreamOf (Aligned Piece)). c.measure_filled.new.self ≡ (turn y).stream) (sym c.s-item.is) c.measure_filled.ensures.stream in
    let sent = subst (λ (y : StreamOf (Aligned Piece)). Sends (turn y).frames
    (with_stats c.loop-s.output (turn_stats (turn y) c.loop-s.output.output.stats)) c.measure_filled.new.output) (sym c.s-item.is) c.measure_filled.ensures.sends in (
      stream_more turn c.args.streams.now c.loop-s.streams i x c.measure_filled.new.self c.loop-s-test.true before.0 c.s-item.is stream,
      turn_more turn c.args.streams.now c.loop-s.streams i x c.args.output.now c.loop-s.output c.measure_filled.new.output c.loop-s-test.true before.0 c.s-item.is before.1 sent,
      omega (arith, before.2, sent.made, sent.kept, sent.few),
      omega (arith, before.3, c.measure_filled.ensures.bounded),
    )
