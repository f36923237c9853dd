-- One place of a list more is set.
use Rattle.std.proofs.Common.{◌≡◌, ◌≢◌, ℕ, ◌+◌, ◌<◌, List, length, get_or, set, replicate, zero, suc, sym, subst, inl, inr, arith}
use Rattle.std.proofs.lemmas.List.{get_or-set_same, get_or-set_other}
use Rattle.std.proofs.lemmas.Bool.{cases_lt}
use Rattle.pg_wire.specs.Check.{dividend_from, IsRemainder}
use Rattle.pg_config.specs.Parts.{Part}
use Rattle.pg_data.specs.Measurements.{block_in}

pub set-more : (P : ℕ → ℕ → Type 0) (xs : List ℕ) (i x : ℕ) → i < length xs → ((k : ℕ) → k < i → P k (get_or xs k 0)) → P i x
    → (k : ℕ) → k < i + 1 → P k (get_or (set xs i x) k 0)
set-more P xs i x within old new k h = elim (cases_lt k i) [
  | inl low ↦
      let other : k ≢ i = λ e. omega arith in
      subst (P k) (sym (get_or-set_other xs i k x 0 other)) (old k low)
  | inr high ↦
      let same : i ≡ k = omega arith in
      subst (λ j. P j (get_or (set xs i x) j 0)) same (subst (P i) (sym (get_or-set_same xs i x 0 within)) new)
]

-- of one block
pub first_alone : (parts : List Part) (body : List ℕ) (r : ℕ) → length parts ≡ 1 → IsRemainder (dividend_from 0 (block_in parts body 0)) r
    → (i : ℕ) → i < length parts → IsRemainder (dividend_from 0 (block_in parts body i)) (get_or (set (replicate 16 0) 0 r) i 0)
first_alone parts body r one is zero h = is
first_alone parts body r one is (suc i) h = absurd (omega arith)
