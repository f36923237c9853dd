-- What a seat has to which the seats of workers were joined.
use Rattle.std.specs.Prelude.{◌≡◌, ℕ, List, [], ◌∷◌, ◌++◌, Option, Some, None}
use mathlib.Core.List.{IsPrefix}
use Rattle.pg_turn.specs.Known.{Known}
use Rattle.pg_gateway.specs.declared.event.Event.{Event}
use Rattle.pg_gateway.specs.declared.event.Reply.{Reply}

-- what contracts see of a seat of a gateway
abbrev pub Place : Type 0
Place = Known Event Reply

-- the seat's own places in the history, if there is a seat
abbrev pub own_of : Option Place → List ℕ
own_of None = []
own_of (Some seat) = seat.own

abbrev pub own_of_all : List (Option Place) → List ℕ
own_of_all [] = []
own_of_all (given ∷ rest) = own_of given ++ own_of_all rest

-- What the seat has seen, if there is one, begins what that one has seen.
abbrev pub IsSeenBy : Place → Option Place → Type 0
IsSeenBy joined None = Unit {0}
IsSeenBy joined (Some seat) = IsPrefix seat.seen joined.seen

abbrev pub AreSeenBy : Place → List (Option Place) → Type 0
AreSeenBy joined [] = Unit {0}
AreSeenBy joined (given ∷ rest) = IsSeenBy joined given × AreSeenBy joined rest

-- Each worker gave what stands in its place of the list, a seat or none.
abbrev pub Gave : {W : Type 0} → (W → Option Place → Type 0) → List W → List (Option Place) → Type 0
Gave gives [] [] = Unit {0}
Gave gives (worker ∷ workers) (given ∷ rest) = gives worker given × Gave gives workers rest
Gave gives [] (given ∷ rest) = ⊥
Gave gives (worker ∷ workers) [] = ⊥

-- The seat of before has become this one by joining what these workers gave: it has seen all that it and they had seen, and its
-- own places are those of before and then those of each worker in turn.
pub record Joins {W : Type 0} (gives : W → Option Place → Type 0) (before : Place) (workers : List W) (joined : Place) : Type 0 where
  pub given : List (Option Place)
  pub gave : Gave gives workers given
  pub table : joined.table ≡ before.table
  pub begins : IsPrefix before.seen joined.seen
  pub seen : AreSeenBy joined given
  pub own : joined.own ≡ before.own ++ own_of_all given

-- What the seat had seen before begins what it has seen now, and its own places begin with those that it had.
pub record Begins (before after : Place) : Type 0 where
  pub seen : IsPrefix before.seen after.seen
  pub later : List ℕ
  pub own : after.own ≡ before.own ++ later
