-- The places of calls as numbers of 64 bits.
use Rattle.std.specs.Prelude.{◌≡◌, ℕ, ◌^◌, ◌-◌, min, List, length}
use Rattle.pg_turn.specs.declared.counted.Counted.{Counted}

-- as a u64: at most 2^64 - 1, where it stays
abbrev pub capped : ℕ → ℕ
capped place = min place (2 ^ 64 - 1)

-- The machine shows the history, and its calls are counted.
pub record CountedShows {M E R : Type 0} (shows : M → List (E × R) → Type 0) (c : Counted M) (history : List (E × R)) : Type 0 where
  pub machine : shows c.machine history
  pub count : c.calls ≡ capped (length history)
