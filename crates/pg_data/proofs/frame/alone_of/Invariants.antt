use Rattle.std.proofs.Common.{◌≡◌, ℕ, ◌<◌, length, slice_index}
use Rattle.pg_wire.specs.Check.{dividend_from, IsRemainder}
use Rattle.pg_data.specs.Measurements.{block_in}
use Rattle.pg_data.proofs.frame.alone_of.Given as goal

abbrev pub invariant-loop-i : goal.invariant-loop-i
invariant-loop-i l = record {
  room : length l.alone ≡ 16;
  alone : (k : ℕ) → k < l.i → IsRemainder (dividend_from 0 (block_in l.config.parts l.body k)) (slice_index l.alone k);
}
