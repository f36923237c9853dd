use Rattle.std.proofs.Common.{◌≡◌, sym, subst, arith}
use Rattle.pg_data.specs.Pieces.{Piece}
use Rattle.pg_align.specs.Slots.{Aligned}
use Rattle.pg_session.specs.Sending.{Sends}
use Rattle.pg_session.specs.Streams.{StreamOf, tick_turn}
use Rattle.pg_session.specs.Kept.{by_slots}
use Rattle.pg_session.proofs.Streaming.{stream_more, turn_more, quiet_sent, quiet-tick}
use Rattle.pg_session.proofs.streams.tick_all.Goals as goal

pub loop-s-preserved : goal.loop-s-preserved
loop-s-preserved c =
    let i = c.loop-s.s-index in
    let x = c.s-item.result in
    let before = c.loop-s.invariant in
    let turn = tick_turn by_slots c.args.listed.now in
    let stream = subst (λ (y : StreamOf (Aligned Piece)). c.tick.new.self ≡ (turn y).stream) (sym c.s-item.is) c.tick.ensures.stream in
    let sent = subst (λ (y : StreamOf (Aligned Piece)). Sends (turn y).frames c.loop-s.output c.tick.new.output) (sym c.s-item.is) c.tick.ensures.sends in (
      stream_more turn c.args.streams.now c.loop-s.streams i x c.tick.new.self c.loop-s-test.true before.0 c.s-item.is stream,
      turn_more turn c.args.streams.now c.loop-s.streams i x c.args.output.now c.loop-s.output c.tick.new.output c.loop-s-test.true before.0 c.s-item.is before.1
          (quiet_sent (turn x) c.loop-s.output c.tick.new.output (quiet-tick c.args.listed.now x c.loop-s.output.output.stats) sent),
      omega (arith, before.2, sent.made, sent.kept, sent.few),
      omega (arith, before.3, c.tick.ensures.bounded),
    )
