use Rattle.std.proofs.Common.{◌≡◌, drop}
use Rattle.pg_quality.specs.Announcing.{blocks_known}
use Rattle.pg_quality.proofs.source_quality.blocks_of.Given as goal

-- it is none of those before
abbrev pub invariant-loop-pmu : goal.invariant-loop-pmu
invariant-loop-pmu l = blocks_known l.id (drop l.pmu-index l.known) ≡ blocks_known l.id l.known
