use Rattle.std.proofs.Common.{arith}
use Rattle.pg_quality.specs.Announcing.{pmu_at}
use Rattle.pg_quality.proofs.Pmus.{each_more}
use Rattle.pg_quality.proofs.source_quality.each_comes_to.Goals as goal

pub loop-pmu-preserved : goal.loop-pmu-preserved
loop-pmu-preserved c = rw (c.come_to.ensures) (each_more (pmu_at c.args.second) _ c.loop-pmu.pmus c.loop-pmu.pmu-index _ (omega arith) c.loop-pmu.invariant)
