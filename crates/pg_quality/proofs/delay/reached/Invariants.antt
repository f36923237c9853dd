use Rattle.std.proofs.Common.{◌≡◌, ◌+◌, drop}
use Rattle.pg_quality.specs.Delaying.{reached}
use Rattle.pg_quality.proofs.delay.reached.Given as goal

-- the buckets so far, with those that are left
abbrev pub invariant-loop-count : goal.invariant-loop-count
invariant-loop-count l = record {
  place : l.bucket ≡ l.count-index;
  reached : l.bucket + reached (drop l.count-index l.counts) l.left ≡ reached l.counts l.rank;
}
