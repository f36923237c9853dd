-- What a call tells its caller that also tells its place.
use Rattle.std.specs.Prelude.{◌≡◌, ℕ, List, [], ◌∷◌, ◌++◌, length}
use Rattle.pg_turn.specs.Known.{Known, StandsIn}
use Rattle.pg_turn.specs.Turns.{IsLegal}
use Rattle.pg_turn.specs.Counting.{capped}

module _ {E R : Type 0} (may : List (E × R) → E → R → Type 0) where
  -- The call is the last of a legal history that begins with all that the caller had seen. Its place is one more of the caller's
  -- own, and the number is that place
  pub record PlacedCall (v : Known E R) (e : E) (r : R) (number : ℕ) (w : Known E R) : Type 0 where
    pub between : List (E × R)
    pub seen : w.seen ≡ (v.seen ++ between) ++ (e, r) ∷ []
    pub own : w.own ≡ v.own ++ length (v.seen ++ between) ∷ []
    pub legal : IsLegal may w.seen
    pub others : StandsIn v.own v.seen
    pub place : number ≡ capped (length (v.seen ++ between))
