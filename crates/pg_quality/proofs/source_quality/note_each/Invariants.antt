use Rattle.std.proofs.Common.{◌≡◌, ◌++◌, map, take, drop}
use Rattle.pg_quality.specs.Announcing.{pmu_noted}
use Rattle.pg_quality.proofs.source_quality.note_each.Given as goal

-- so many of the PMUs are done, and the others are as they were
abbrev pub invariant-loop-pmu : goal.invariant-loop-pmu
invariant-loop-pmu l = l.pmus ≡ map (pmu_noted l.body) (take l.pmu-index l.initial.pmus) ++ drop l.pmu-index l.initial.pmus
