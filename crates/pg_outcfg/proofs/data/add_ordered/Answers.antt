use Rattle.std.proofs.Common.{◌≡◌, ◌∙◌, Some, None, refl, sym, ap, length, true, false, arith}
use Rattle.pg_outcfg.proofs.Blocks.{counted, added}
use Rattle.pg_outcfg.proofs.Ordered.{next-ordered, never-none, place-below}
use Rattle.pg_outcfg.proofs.data.add_ordered.Goals as goal

pub unreachable-requires : goal.unreachable-requires
unreachable-requires c = never-none (length c.args.frame.now.config.parts) c.args.order.now c.loop-place.place-index None c.requires.blocks c.loop-place-test.true c.in_default.is

pub add_block-requires-clause-place : goal.add_block-requires-clause-place
add_block-requires-clause-place c =
    let below = place-below (length c.args.frame.now.config.parts) c.args.order.now c.loop-place.place-index c.in-Some.i None c.requires.blocks c.loop-place-test.true c.in-Some.is in
    omega (arith, below, c.from.ensures)

pub loop-place-preserved : goal.loop-place-preserved
loop-place-preserved c =
    let left = next-ordered c.args.frame.now c.args.order.now c.loop-place.place-index c.from.result None c.loop-place-test.true (c.in-Some.is ∙ ap Some (sym c.from.ensures)) in
    let first = counted _ _ _ left in
    let fitted = c.in_ok-crc.ensures in
    record {
      bytes = rw (fitted.bytes refl) (added _ _ _ c.loop-place.out.items _ left c.loop-place.invariant.bytes);
      len = omega (arith, first, fitted.len refl, c.loop-place.invariant.len);
      check = fitted.check;
      room = omega (arith, c.add_block.ensures.room, c.loop-place.invariant.room);
    }

pub returns-in_err-crc-clause-fits : goal.returns-in_err-crc-clause-fits
returns-in_err-crc-clause-fits c room =
    let left = next-ordered c.args.frame.now c.args.order.now c.loop-place.place-index c.from.result None c.loop-place-test.true (c.in-Some.is ∙ ap Some (sym c.from.ensures)) in
    let first = counted _ _ _ left in
    absurd (let no : false ≡ true = c.in_err-crc.ensures.fits (omega (arith, first, c.loop-place.invariant.len, c.loop-place.invariant.room, room)) in cc)
