use Rattle.std.proofs.Common.{◌≡◌, ℕ, ◌<◌}
use Rattle.std.specs.Int.{bit_at}
use Rattle.pg_data.specs.Measurements.{stat_of}
use Rattle.pg_data.proofs.frame.DataFrame.finds_change.Given as goal

abbrev pub invariant-loop-i : goal.invariant-loop-i
invariant-loop-i l = (k : ℕ) → k < l.i → bit_at (stat_of l.self k) 10 ≡ 1 → ⊥
