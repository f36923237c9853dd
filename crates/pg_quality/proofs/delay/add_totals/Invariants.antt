use Rattle.std.proofs.Common.{◌≡◌, ◌-◌, ◌^◌}
use Rattle.pg_quality.proofs.Adding.{mixed}
use Rattle.pg_quality.proofs.delay.add_totals.Given as goal

-- so many buckets are added, and the others are as they were
abbrev pub invariant-loop-bucket : goal.invariant-loop-bucket
invariant-loop-bucket l = l.totals ≡ mixed (2 ^ 64 - 1) l.bucket l.initial.totals l.counts
