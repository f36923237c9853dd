-- What is done at one entry of two related lists keeps them related.
use Rattle.std.proofs.Common.{is_some, ◌≡◌, ℕ, suc, Bool, true, false, cond, List, [], ◌∷◌, ◌++◌, length, Option, Some, None, refl, ap, subst}
use Rattle.std.specs.Map.{lookup, set_value, remove_entry}
use Rattle.pg_gateway.specs.Related.{Related}

module _ {V W : Type 0} (R : V → W → Type 0) where
  -- both have a value there, in relation, or neither
  abbrev pub Both : Option V → Option W → Type 0
  Both None None = Unit {0}
  Both (Some v) (Some w) = R v w
  Both None (Some w) = ⊥
  Both (Some v) None = ⊥

  pub Related-length : (xs : List (ℕ × V)) (ys : List (ℕ × W)) → Related R xs ys → length xs ≡ length ys
  Related-length [] [] h = refl
  Related-length [] (y ∷ ys) h = absurd h
  Related-length (x ∷ xs) [] h = absurd h
  Related-length (x ∷ xs) (y ∷ ys) h = ap suc (Related-length xs ys h.2)

  pub Related-lookup : (test : ℕ → Bool) (xs : List (ℕ × V)) (ys : List (ℕ × W)) → Related R xs ys → Both (lookup test xs) (lookup test ys)
  Related-lookup test [] [] h = tt
  Related-lookup test [] (y ∷ ys) h = absurd h
  Related-lookup test (x ∷ xs) [] h = absurd h
  Related-lookup test (x ∷ xs) (y ∷ ys) h = rw h.0 (by (test y.0) (Related-lookup test xs ys h.2))
    where
      by : (b : Bool) → Both (lookup test xs) (lookup test ys) → Both (cond b (Some x.1) (lookup test xs)) (cond b (Some y.1) (lookup test ys))
      by true rest = h.1
      by false rest = rest

  pub Related-set_value : (test : ℕ → Bool) (v : V) (w : W) → R v w → (xs : List (ℕ × V)) (ys : List (ℕ × W)) → Related R xs ys → Related R (set_value test xs v) (set_value test ys w)
  Related-set_value test v w r [] [] h = tt
  Related-set_value test v w r [] (y ∷ ys) h = absurd h
  Related-set_value test v w r (x ∷ xs) [] h = absurd h
  Related-set_value test v w r (x ∷ xs) (y ∷ ys) h = rw (ap test h.0) (by (test y.0) (Related-set_value test v w r xs ys h.2))
    where
      by : (b : Bool) → Related R (set_value test xs v) (set_value test ys w) → Related R (cond b ((x.0, v) ∷ xs) (x ∷ set_value test xs v)) (cond b ((y.0, w) ∷ ys) (y ∷ set_value test ys w))
      by true rest = (h.0, r, h.2)
      by false rest = (h.0, h.1, rest)

  pub Related-remove_entry : (test : ℕ → Bool) (xs : List (ℕ × V)) (ys : List (ℕ × W)) → Related R xs ys → Related R (remove_entry test xs) (remove_entry test ys)
  Related-remove_entry test [] [] h = tt
  Related-remove_entry test [] (y ∷ ys) h = absurd h
  Related-remove_entry test (x ∷ xs) [] h = absurd h
  Related-remove_entry test (x ∷ xs) (y ∷ ys) h = rw (ap test h.0) (by (test y.0) (Related-remove_entry test xs ys h.2))
    where
      by : (b : Bool) → Related R (remove_entry test xs) (remove_entry test ys) → Related R (cond b xs (x ∷ remove_entry test xs)) (cond b ys (y ∷ remove_entry test ys))
      by true rest = h.2
      by false rest = (h.0, h.1, rest)

  pub Related-push : (u : ℕ) (v : V) (w : W) → R v w → (xs : List (ℕ × V)) (ys : List (ℕ × W)) → Related R xs ys → Related R (xs ++ (u, v) ∷ []) (ys ++ (u, w) ∷ [])
  Related-push u v w r [] [] h = (refl, r, tt)
  Related-push u v w r [] (y ∷ ys) h = absurd h
  Related-push u v w r (x ∷ xs) [] h = absurd h
  Related-push u v w r (x ∷ xs) (y ∷ ys) h = (h.0, h.1, Related-push u v w r xs ys h.2)

  -- both have none, or both have one
  pub lookup-none : (test : ℕ → Bool) (xs : List (ℕ × V)) (ys : List (ℕ × W)) → Related R xs ys → lookup test xs ≡ None → lookup test ys ≡ None
  lookup-none test xs ys h none = by (lookup test ys) (subst (λ o. Both o (lookup test ys)) none (Related-lookup test xs ys h))
    where
      by : (o : Option W) → Both None o → o ≡ None
      by None b = refl
      by (Some w) b = absurd b

  pub lookup-some : (test : ℕ → Bool) (v : V) (xs : List (ℕ × V)) (ys : List (ℕ × W)) → Related R xs ys → lookup test xs ≡ Some v → (w : W) × (lookup test ys ≡ Some w) × R v w
  lookup-some test v xs ys h some = by (lookup test ys) (subst (λ o. Both o (lookup test ys)) some (Related-lookup test xs ys h))
    where
      by : (o : Option W) → Both (Some v) o → (w : W) × (o ≡ Some w) × R v w
      by None b = absurd b
      by (Some w) b = (w, refl, b)

  pub lookup-is_some : (test : ℕ → Bool) (xs : List (ℕ × V)) (ys : List (ℕ × W)) → Related R xs ys → is_some (lookup test xs) ≡ is_some (lookup test ys)
  lookup-is_some test xs ys h = by (lookup test xs) (lookup test ys) (Related-lookup test xs ys h)
    where
      by : (o : Option V) (p : Option W) → Both o p → is_some o ≡ is_some p
      by None None b = refl
      by (Some v) (Some w) b = refl
      by None (Some w) b = absurd b
      by (Some v) None b = absurd b
