-- Frames that are counted one after another, and all at once.
use Rattle.std.proofs.Common.{◌≡◌, ℕ, ◌+◌, add-zero, arith}
use Rattle.pg_quality.specs.Counting.{more}
use Rattle.pg_quality.specs.Tallies.{in_turn, with_tally}
use Rattle.pg_quality.specs.declared.completeness.Completeness.{Completeness}

pub more_more : (a p q : ℕ) → more (more a p) q ≡ more a (p + q)
more_more a p q = omega arith

-- one more frame
pub in_turn_more : (c : Completeness) (p : ℕ) → with_tally c (in_turn (p + 1)) ≡ with_tally (with_tally c (in_turn p)) (record { expected = 1; received = 1 })
in_turn_more c p = simp more_more

-- none
pub in_turn_none : (c : Completeness) (p : ℕ) → with_tally (with_tally c (in_turn p)) (in_turn 0) ≡ with_tally c (in_turn p)
in_turn_none c p = simp more_more (simp add-zero)
