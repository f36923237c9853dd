use Rattle.std.proofs.Common.{arith}
use Rattle.pg_quality.specs.Announcing.{pmu_noted}
use Rattle.pg_quality.proofs.Pmus.{each_more}
use Rattle.pg_quality.proofs.source_quality.note_each.Goals as goal

pub loop-pmu-preserved : goal.loop-pmu-preserved
loop-pmu-preserved c = rw (c.note.ensures) (each_more (pmu_noted c.args.body.now) _ c.loop-pmu.pmus c.loop-pmu.pmu-index _ (omega arith) c.loop-pmu.invariant)
