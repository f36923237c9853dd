use Rattle.std.proofs.Common.{arith}
use Rattle.std.specs.Arc.{arc_value}
use Rattle.pg_quality.proofs.Pmus.{pmus_more}
use Rattle.pg_quality.proofs.source_quality.pmus_of.Goals as goal

pub loop-part-preserved : goal.loop-part-preserved
loop-part-preserved c = record {
  small = omega arith;
  made = rw (c.in_ok-push.ensures.items, c.new.ensures, c.blocks_of-blocks.ensures, c.id.ensures.value, c.block_len-start.ensures.value, c.deref.ensures, c.deref-in-loop-part.ensures, c.deref-in-loop-part-2.ensures)
      (pmus_more arc_value c.args.known.now c.args.parts.now c.loop-part.part-index c.loop-part.start c.part-item.result c.loop-part.pmus.items _ (omega arith) c.part-item.is c.loop-part.invariant.made);
}
