use Rattle.std.proofs.Common.{◌≡◌, ◌+◌, ◌-◌, ◌^◌, min, take}
use Rattle.std.specs.Prelude.{sum}
use Rattle.pg_quality.proofs.delay.sum_below.Given as goal

-- the first so many buckets are summed
abbrev pub invariant-loop-bucket : goal.invariant-loop-bucket
invariant-loop-bucket l = l.count ≡ min (sum (take l.bucket l.totals) + sum (take l.bucket l.counts)) (2 ^ 64 - 1)
