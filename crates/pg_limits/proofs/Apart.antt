-- Lengths that are apart.
use Rattle.std.proofs.Common.{ℕ, zero, suc, ◌+◌, ◌-◌, ◌<◌, ◌≤◌, ◌≡◌, ◌∙◌, sym, true, not, eqb, List, [], ◌∷◌, length, get_or, take, arith}
use Rattle.std.specs.List.{list_all}
use Rattle.std.proofs.lemmas.Bool.{and_parts, not-true, eqb-false, ltb-true}
use Rattle.std.proofs.lemmas.List.{get_or-take, length-take}
use Rattle.pg_limits.specs.Layouts.{are_apart, are_unlike}

none_at : (len : ℕ) (xs : List ℕ) (j : ℕ) → list_all (λ other. not (eqb other len)) xs ≡ true → j < length xs → get_or xs j 0 ≡ len → ⊥
none_at len [] j h within e = omega (arith, within)
none_at len (x ∷ xs) zero h within e = eqb-false x len (not-true (eqb x len) (and_parts (not (eqb x len)) _ h).0) e
none_at len (x ∷ xs) (suc j) h within e = none_at len xs j (and_parts (not (eqb x len)) _ h).1 (omega (arith, within)) e

apart_at : (xs : List ℕ) (i j : ℕ) → are_apart xs ≡ true → i < j → j < length xs → get_or xs i 0 ≡ get_or xs j 0 → ⊥
apart_at [] i j h less within e = omega (arith, within)
apart_at (x ∷ xs) zero zero h less within e = omega (arith, less)
apart_at (x ∷ xs) zero (suc j) h less within e =
    none_at x xs j (and_parts (list_all (λ other. not (eqb other x)) xs) (are_apart xs) h).0 (omega (arith, within)) (sym e)
apart_at (x ∷ xs) (suc i) zero h less within e = omega (arith, less)
apart_at (x ∷ xs) (suc i) (suc j) h less within e =
    apart_at xs i j (and_parts (list_all (λ other. not (eqb other x)) xs) (are_apart xs) h).1 (omega (arith, less)) (omega (arith, within)) e

-- of layouts that are unlike, the i-th and the j-th have other lengths
pub unlike_at : (xs : List ℕ) (floor newest i j : ℕ) → are_unlike xs floor newest ≡ true → i < j → j ≤ newest - floor → get_or xs i 0 ≡ get_or xs j 0 → ⊥
unlike_at xs floor newest i j h less within e =
    let parts = and_parts _ _ h in
    let long : newest - floor < length xs = ltb-true _ _ parts.0 in
    apart_at (take (newest - floor + 1) xs) i j parts.1 less (omega (arith, length-take (newest - floor + 1) xs))
    (get_or-take (newest - floor + 1) xs i 0 (omega arith) ∙ (e ∙ sym (get_or-take (newest - floor + 1) xs j 0 (omega arith))))

-- as many are known as the window has
pub unlike_known : (xs : List ℕ) (floor newest : ℕ) → are_unlike xs floor newest ≡ true → newest - floor < length xs
unlike_known xs floor newest h = ltb-true _ _ (and_parts _ _ h).0
