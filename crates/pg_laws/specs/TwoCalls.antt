-- Where two calls stand in a history, and what two totals of a counter count.
use Rattle.std.specs.Prelude.{◌≡◌, ◌≢◌, ◌⊎◌, ℕ, ◌<◌, ◌≤◌, List, [], ◌∷◌, ◌++◌, slice_get, Some}
use Rattle.pg_turn.specs.Known.{Known}
use Rattle.pg_turn.specs.Turns.{IsLegal}
use Rattle.pg_laws.specs.Totals.{capped_add}

module _ {E R : Type 0} (may : List (E × R) → E → R → Type 0) where
  -- both calls stand in this legal history, at two different places
  abbrev pub BothStand : E → R → E → R → List (E × R) → Type 0
  BothStand e r f q history = IsLegal may history × ((a b : ℕ) × (a ≢ b) × (slice_get history a ≡ Some (e, r)) × (slice_get history b ≡ Some (f, q)))

  -- Both calls stand in the legal history, the first before the second, and the seat's own places are those that it had and then these two
  abbrev pub InOrder : Known E R → E → R → E → R → Known E R → Type 0
  InOrder v e r f q w = IsLegal may w.seen × ((a b : ℕ) × (a < b) × (w.own ≡ v.own ++ a ∷ b ∷ []) × (slice_get w.seen a ≡ Some (e, r)) × (slice_get w.seen b ≡ Some (f, q)))

-- one of the two totals counts both numbers
abbrev pub CountsBoth : ℕ → ℕ → ℕ → ℕ → Type 0
CountsBoth m n one two = (capped_add m n ≤ one) ⊎ (capped_add m n ≤ two)

-- each of the two totals counts its own number
abbrev pub CountsOwn : ℕ → ℕ → ℕ → ℕ → Type 0
CountsOwn m n one two = (capped_add 0 m ≤ one) × (capped_add 0 n ≤ two)
