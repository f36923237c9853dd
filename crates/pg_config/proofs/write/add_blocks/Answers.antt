use Rattle.std.proofs.Common.{◌++◌, ◌∙◌, ap, sym, arith, length}
use Rattle.std.proofs.lemmas.List.{append-nil}
use Rattle.std.specs.Arc.{arc_value}
use Rattle.pg_config.specs.Writing.{block_with_count}
use Rattle.pg_config.proofs.Copying.{none_left, added-more, left-more}
use Rattle.pg_config.proofs.write.add_blocks.Goals as goal

pub add_to-requires : goal.add_to-requires
add_to-requires c =
    let more = left-more arc_value c.args.parts.now c.loop-part.part-index c.part-item.result c.args.count c.loop-part-test.true c.part-item.is in
    rw c.deref.ensures (omega (arith, more, c.loop-part.invariant.fits))

pub loop-part-preserved : goal.loop-part-preserved
loop-part-preserved c =
    let more = left-more arc_value c.args.parts.now c.loop-part.part-index c.part-item.result c.args.count c.loop-part-test.true c.part-item.is in
    let len = ap (λ p. length (block_with_count c.args.count p)) c.deref.ensures in
    record {
      bytes = rw (c.add_to.ensures.bytes, c.deref.ensures)
          (added-more arc_value c.args.parts.now c.loop-part.part-index c.part-item.result c.args.count c.loop-part.frame.items _ c.loop-part-test.true c.part-item.is c.loop-part.invariant.bytes);
      room = omega (arith, c.add_to.ensures.room);
      fits = omega (arith, more, len, c.add_to.ensures.len, c.add_to.ensures.room, c.loop-part.invariant.fits);
    }

pub returns-clause-bytes : goal.returns-clause-bytes
returns-clause-bytes c =
    sym (append-nil c.loop-part.frame.items) ∙ ap (λ l. c.loop-part.frame.items ++ l) (sym (none_left arc_value c.args.parts.now c.loop-part.part-index c.args.count c.loop-part-test.false)) ∙ c.loop-part.invariant.bytes
