-- Records of calls at their places, and what lies between two places of a history.
use Rattle.std.specs.Prelude.{◌≡◌, ℕ, suc, ◌<◌, ◌^◌, ◌-◌, ◌&&◌, Bool, true, nat_eq, nat_lt, List, [], ◌∷◌, map, take, drop, slice_get, option_map, Some}
use Rattle.pg_record.specs.declared.recording.Placed.{Placed}

module _ {E R N : Type 0} (says : E → N) where
  -- what is recorded of a call
  abbrev pub said : E × R → N
  said call = says call.0

  -- The record says what was asked at its place of the history.
  abbrev pub Stands : List (E × R) → Placed N → Type 0
  Stands history n = n.place < 2 ^ 64 - 1 → option_map said (slice_get history n.place) ≡ Some n.note

  -- what is recorded of so many calls of the history, from this place on
  abbrev pub between : List (E × R) → ℕ → ℕ → List N
  between history from count = map said (take count (drop from history))

-- the records are of places in a row, from this one on
abbrev pub is_row : {N : Type 0} → ℕ → List (Placed N) → Bool
is_row from [] = true
is_row from (n ∷ notes) = nat_eq n.place from && (nat_lt from (2 ^ 64 - 1) && is_row (suc from) notes)
