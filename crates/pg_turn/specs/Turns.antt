-- Legal histories, and what a call and a join tell a seat.
use Rattle.std.specs.Prelude.{◌≡◌, ◌⊎◌, List, [], ◌∷◌, ◌++◌, length}
use mathlib.Core.List.{IsPrefix}
use Rattle.pg_turn.specs.Known.{Known, StandsIn}

-- one of the two begins the other, and zs is the longer
abbrev pub IsLonger : {A : Type 0} → List A → List A → List A → Type 0
IsLonger xs ys zs = (IsPrefix ys xs × (zs ≡ xs)) ⊎ (IsPrefix xs ys × (zs ≡ ys))

module _ {E R : Type 0} (may : List (E × R) → E → R → Type 0) where
  -- the calls are legal, one after the other, after those before them
  abbrev pub IsLegalAfter : List (E × R) → List (E × R) → Type 0
  IsLegalAfter before [] = Unit {0}
  IsLegalAfter before (x ∷ xs) = may before x.0 x.1 × IsLegalAfter (before ++ x ∷ []) xs

  -- each reply is one that the machine may give after the calls before it
  abbrev pub IsLegal : List (E × R) → Type 0
  IsLegal history = IsLegalAfter [] history

  -- The call is the last of a legal history that begins with all that the caller had seen. Its place is one more of the caller's own, and the others stand in what the caller had seen
  abbrev pub Called : Known E R → E → R → Known E R → Type 0
  Called v e r w = (between : List (E × R)) × (w.seen ≡ (v.seen ++ between) ++ (e, r) ∷ []) × (w.own ≡ v.own ++ length (v.seen ++ between) ∷ []) × IsLegal w.seen × StandsIn v.own v.seen
