use Rattle.std.proofs.Common.{◌≡◌, ◌≤◌, ◌+◌, ◌*◌, ◌^◌, drop}
use Rattle.std.specs.Prelude.{sum}
use Rattle.pg_quality.proofs.delay.Histogram.count.Given as goal

-- the count so far, with the buckets that are left
abbrev pub invariant-loop-frames : goal.invariant-loop-frames
invariant-loop-frames l = record {
  small : l.count ≤ 2 ^ 32 * l.frames-index;
  counted : l.count + sum (drop l.frames-index l.self.counts) ≡ sum l.self.counts;
}
