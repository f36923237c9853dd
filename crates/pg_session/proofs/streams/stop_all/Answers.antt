use Rattle.std.proofs.Common.{arith}
use Rattle.std.proofs.lemmas.List.Edits.{map_over_more}
use Rattle.pg_session.specs.Private.{stopped}
use Rattle.pg_session.specs.Kept.{by_slots, by_gaps}
use Rattle.pg_session.proofs.streams.stop_all.Goals as goal

pub loop-s-preserved : goal.loop-s-preserved
loop-s-preserved c = rw (c.stop.ensures, ← c.s-item.is) (map_over_more (stopped by_slots by_gaps) c.args.streams.now c.loop-s.streams c.loop-s.s-index c.s-item.result (omega arith) c.loop-s.invariant c.s-item.is)
