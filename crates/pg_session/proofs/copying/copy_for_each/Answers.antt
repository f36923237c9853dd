use Rattle.std.proofs.Common.{◌+◌, ◌++◌, drop, replicate, if◌then◌else◌, sym, ap, ◌∙◌, arith}
use Rattle.std.specs.Arc.{arc_value}
use Rattle.pg_data.specs.Pieces.{piece_of}
use Rattle.pg_session.specs.Filling.{may_keep, count_keeping}
use Rattle.pg_session.proofs.OneBlock.{keeping_next, spread_next}
use Rattle.pg_session.proofs.copying.copy_for_each.Goals as goal

pub loop-s-preserved : goal.loop-s-preserved
loop-s-preserved c =
    let piece = piece_of (arc_value c.args.frame.now) c.args.place in
    let i = c.loop-s.s-index in
    let x = c.s-item.result in
    let next = keeping_next c.args.streams.now i x c.loop-s-test.true (sym c.s-item.is) in (
      spread_next c.loop-s.blocks.items c.prepare_one.new.blocks.items piece (if may_keep x then 1 else 0) (count_keeping (drop (i + 1) c.args.streams.now))
          (replicate (count_keeping c.args.streams.now) piece) c.in_ok-prepare_one.ensures.prepared
          (ap (λ n. c.loop-s.blocks.items ++ replicate n piece) (sym next) ∙ c.loop-s.invariant.0),
      omega (arith, c.in_ok-prepare_one.ensures.few, c.loop-s.invariant.1),
      c.prepare_one.ensures.capacity ∙ c.loop-s.invariant.2,
    )
