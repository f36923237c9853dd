-- A PMU that stands where it was guessed.
use Rattle.std.proofs.Common.{◌≡◌, ◌≢◌, ℕ, zero, suc, ◌<◌, Bool, true, false, List, [], ◌∷◌, length, AllPairs, Some, is_some, slice_get, get_or, refl, sym, ap, ◌∙◌, arith}
use Rattle.std.specs.List.{position_or_len}
use Rattle.std.specs.Map.{keys_of, values_of}
use Rattle.std.proofs.lemmas.Bool.{lt-ltb}
use Rattle.std.proofs.lemmas.List.{length-map}
use Rattle.pg_wire.specs.declared.ids.PmuKey.{PmuKey}
use Rattle.pg_wire.specs.Keys.{key_eq}
use Rattle.pg_registry.specs.Registered.{Pmu, Pmus, pmu_of, has_key, place_in, pmu_at}
use Rattle.pg_registry.proofs.Lists.{decides_same, at_place}

same_of : (a b : PmuKey) → key_eq a b ≡ true → a ≡ b
same_of a b e = (decides_same a b).0 e

-- no key before it is the same, as keys differ
first_at : (keys : List PmuKey) (key : PmuKey) (i : ℕ) (d : PmuKey) → AllPairs (λ a b. a ≢ b) keys → i < length keys
    → key_eq key (get_or keys i d) ≡ true → position_or_len (key_eq key) keys ≡ i
first_at [] key i d apart within same = absurd (omega arith)
first_at (k ∷ ks) key zero d apart within same = rw same refl
first_at (k ∷ ks) key (suc j) d apart within same =
    let rest = first_at ks key j d (λ a b e less inside. apart (suc a) (suc b) e (omega arith) (omega arith)) (omega arith) same in
    rw (other (key_eq key k) refl) (omega (arith, rest))
  where
    other : (b : Bool) → key_eq key k ≡ b → key_eq key k ≡ false
    other false e = e
    other true e = absurd (apart 0 (suc j) d (omega arith) within (sym (same_of key k e) ∙ same_of key (get_or ks j d) same))

pub place_at : (ps : Pmus) (key : PmuKey) (i : ℕ) (d : PmuKey) → AllPairs (λ a b. a ≢ b) (keys_of ps) → i < length (keys_of ps)
    → key_eq key (get_or (keys_of ps) i d) ≡ true → place_in ps key ≡ Some i
place_at ps key i d apart within same = rw (first_at (keys_of ps) key i d apart within same, lt-ltb i (length (keys_of ps)) within) refl

some_at : (ps : Pmus) (i : ℕ) → i < length ps → is_some (pmu_at ps i) ≡ true
some_at [] i h = absurd (omega arith)
some_at (p ∷ ps) zero h = refl
some_at (p ∷ ps) (suc i) h = some_at ps i (omega arith)

pub has_at : (ps : Pmus) (key : PmuKey) (i : ℕ) → place_in ps key ≡ Some i → i < length ps → has_key ps key ≡ true
has_at ps key i e h = ap is_some (at_place ps key i e) ∙ some_at ps i h
