use Rattle.std.proofs.Common.{◌≡◌, ◌++◌, map, take, drop}
use Rattle.pg_quality.specs.Announcing.{pmu_at}
use Rattle.pg_quality.proofs.source_quality.each_comes_to.Given as goal

-- so many of the PMUs are done, and the others are as they were
abbrev pub invariant-loop-pmu : goal.invariant-loop-pmu
invariant-loop-pmu l = l.pmus ≡ map (pmu_at l.second) (take l.pmu-index l.initial.pmus) ++ drop l.pmu-index l.initial.pmus
