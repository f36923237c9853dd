-- What a contract sees of a seat, and the places of calls in a history.
use Rattle.std.specs.Prelude.{ℕ, ◌<◌, List, length, count_by, ◌==◌}
use Rattle.atomic_table.specs.Seated.{TableId}

-- A place is an index in the history, from 0. A history only grows, so that a place stays with its call
pub record Known (E R : Type 0) : Type 0 where
  -- the turnstile's table
  pub table : TableId
  -- the history, as far as the seat has seen it
  pub seen : List (E × R)
  -- the places of the seat's own calls in the history
  pub own : List ℕ

-- how often the place stands among these
abbrev pub times : ℕ → List ℕ → ℕ
times place own = count_by (λ p. p == place) own

-- these are places of the list
abbrev pub StandsIn : {A : Type 0} → List ℕ → List A → Type 0
StandsIn own history = (place : ℕ) → 0 < times place own → place < length history
