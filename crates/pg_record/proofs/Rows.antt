-- Notes in a row are what lies between two places of a history.
use Rattle.std.proofs.Common.{◌≡◌, ℕ, zero, suc, ◌-◌, ◌<◌, ◌^◌, ◌&&◌, Bool, true, false, List, [], ◌∷◌, ◌++◌, length, map, take, drop, sym, refl, ap, ◌∙◌, subst, ⊎_elim, append-nil, arith, Option, Some, None}
use Rattle.std.specs.Prelude.{slice_get, option_map, All, nat_eq, nat_lt}
use Rattle.std.specs.List.Sorted.{IsPermutation}
use Rattle.std.proofs.lemmas.Option.{none-some, same_Some}
use Rattle.std.proofs.lemmas.List.Elements.{All-head, All-tail, All-append}
use Rattle.std.proofs.lemmas.List.Sorted.{All-permutation}
use Rattle.std.proofs.lemmas.Bool.Decides.{nat_tests}
use mathlib.Core.List.{IsPrefix}
use Rattle.pg_turn.specs.Turns.{IsLonger}
use Rattle.pg_record.specs.declared.recording.Placed.{Placed}
use Rattle.pg_record.specs.Rows.{said, Stands, between, is_row}

module _ {A N : Type 0} (f : A → N) where
  -- from a place at which something stands, so many and one more are this and so many behind it
  one_more : (xs : List A) (i k : ℕ) (y : N) → option_map f (slice_get xs i) ≡ Some y → map f (take (suc k) (drop i xs)) ≡ y ∷ map f (take k (drop (suc i) xs))
  one_more [] i k y e = absurd (none-some y e)
  one_more (x ∷ xs) zero k y e = ap (λ z. z ∷ map f (take k xs)) (same_Some (f x) y e)
  one_more (x ∷ xs) (suc i) k y e = one_more xs i k y e

  -- what stands in a list stands in a longer one
  stays : (xs more : List A) (i : ℕ) (y : N) → option_map f (slice_get xs i) ≡ Some y → option_map f (slice_get (xs ++ more) i) ≡ Some y
  stays [] more i y e = absurd (none-some y e)
  stays (x ∷ xs) more zero y e = e
  stays (x ∷ xs) more (suc i) y e = stays xs more i y e

both_true : (a b : Bool) → (a && b) ≡ true → (a ≡ true) × (b ≡ true)
both_true true b e = (refl, e)
both_true false b e = absurd (let no : false ≡ true = e in cc)

same_place : (m n : ℕ) → nat_eq m n ≡ true → m ≡ n
same_place m n e = grind (arith, nat_tests)

below : (m n : ℕ) → nat_lt m n ≡ true → m < n
below m n e = grind (arith, nat_tests)

module _ {E R N : Type 0} (says : E → N) where
  pub row_is_between : (history : List (E × R)) (from : ℕ) (notes : List (Placed N)) → All (Stands says history) notes → is_row from notes ≡ true
      → map (λ n. n.note) notes ≡ between says history from (length notes)
  row_is_between history from [] stand row = refl
  row_is_between history from (n ∷ notes) stand row =
      let p = both_true _ _ row in
      let q = both_true _ _ p.1 in
      let place : n.place ≡ from = same_place n.place from p.0 in
      let here : n.place < 2 ^ 64 - 1 = subst (λ k. k < 2 ^ 64 - 1) (sym place) (below from (2 ^ 64 - 1) q.0) in
      let there : option_map (said says) (slice_get history from) ≡ Some n.note = subst (λ k. option_map (said says) (slice_get history k) ≡ Some n.note) place (All-head (Stands says history) n notes stand here) in
      let rest = row_is_between history (suc from) notes (All-tail (Stands says history) n notes stand) q.1 in
      ap (λ l. n.note ∷ l) rest ∙ sym (one_more (said says) history from (length notes) n.note there)

  stand_longer : (xs ys : List (E × R)) (n : Placed N) → IsPrefix xs ys → Stands says xs n → Stands says ys n
  stand_longer xs ys n p stands small = subst (λ l. option_map (said says) (slice_get l n.place) ≡ Some n.note) p.1 (stays (said says) xs p.0 n.place n.note (stands small))

  all_longer : (xs ys : List (E × R)) (notes : List (Placed N)) → IsPrefix xs ys → All (Stands says xs) notes → All (Stands says ys) notes
  all_longer xs ys notes p all k d lt = stand_longer xs ys _ p (all k d lt)

  longer_of : (xs ys zs : List (E × R)) → IsLonger xs ys zs → IsPrefix xs zs × IsPrefix ys zs
  longer_of xs ys zs l = ⊎_elim (λ (x : IsPrefix ys xs × (zs ≡ xs)). (subst (IsPrefix xs) (sym x.1) ([], append-nil xs), subst (IsPrefix ys) (sym x.1) x.0))
      (λ (x : IsPrefix xs ys × (zs ≡ ys)). (subst (IsPrefix xs) (sym x.1) x.0, subst (IsPrefix ys) (sym x.1) ([], append-nil ys))) l

  pub stand_joined : (xs ys zs : List (E × R)) (one two both : List (Placed N)) → IsLonger xs ys zs → All (Stands says xs) one → All (Stands says ys) two
      → IsPermutation (one ++ two) both → All (Stands says zs) both
  stand_joined xs ys zs one two both longer a b same = let p = longer_of xs ys zs longer in
      All-permutation (Stands says zs) (one ++ two) both same (All-append (Stands says zs) one two (all_longer xs zs one p.0 a) (all_longer ys zs two p.1 b))
