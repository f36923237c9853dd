use Rattle.std.proofs.Common.{◌≡◌, ◌-◌, ◌^◌}
use Rattle.pg_quality.proofs.Adding.{mixed}
use Rattle.pg_quality.proofs.delay.add_counts.Given as goal

-- so many buckets are added, and the others are as they were
abbrev pub invariant-loop-bucket : goal.invariant-loop-bucket
invariant-loop-bucket l = l.counts ≡ mixed (2 ^ 32 - 1) l.bucket l.initial.counts l.others
