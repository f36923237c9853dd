use Rattle.std.proofs.Common.{add-one, arith}
use Rattle.std.specs.Arc.{arc_value}
use Rattle.pg_config.proofs.Places.{ends_from-more}
use Rattle.pg_config.proofs.source.places_of.Goals as goal

pub loop-part-preserved : goal.loop-part-preserved
loop-part-preserved c = record {
  small = omega arith;
  made = rw (c.in_ok-push-2.ensures.items, c.block_len-place.ensures.value, c.deref.ensures, add-one)
      (ends_from-more arc_value c.args.parts.now c.loop-part.part-index c.loop-part.place c.part-item.result c.loop-part.found.items _ (omega arith) c.part-item.is c.loop-part.invariant.made);
}
