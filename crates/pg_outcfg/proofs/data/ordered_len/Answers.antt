use Rattle.std.proofs.Common.{◌∙◌, Some, None, sym, ap, length, arith}
use Rattle.pg_outcfg.proofs.Blocks.{counted}
use Rattle.pg_outcfg.proofs.Ordered.{next-ordered, never-none, place-below}
use Rattle.pg_outcfg.proofs.data.ordered_len.Goals as goal

pub unreachable-requires : goal.unreachable-requires
unreachable-requires c = never-none (length c.args.frame.now.config.parts) c.args.order.now c.loop-place.place-index None c.requires.blocks c.loop-place-test.true c.in_default.is

pub block-requires : goal.block-requires
block-requires c =
    let below = place-below (length c.args.frame.now.config.parts) c.args.order.now c.loop-place.place-index c.in-Some.i None c.requires.blocks c.loop-place-test.true c.in-Some.is in
    omega (arith, below, c.from.ensures)

pub loop-place-preserved : goal.loop-place-preserved
loop-place-preserved c =
    let left = next-ordered c.args.frame.now c.args.order.now c.loop-place.place-index c.from.result None c.loop-place-test.true (c.in-Some.is ∙ ap Some (sym c.from.ensures)) in
    let first = counted _ _ _ left in
    record {
      small = omega (arith, c.block.ensures.few, c.loop-place.invariant.small);
      counted = omega (arith, first, ap length c.block.ensures.value, c.loop-place.invariant.counted);
    }
