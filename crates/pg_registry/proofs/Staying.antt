-- Keys stay apart, changes stay at their key, and places stay.
use Rattle.std.proofs.Common.{◌≡◌, ◌≢◌, ℕ, zero, suc, ◌+◌, ◌<◌, ◌≤◌, Bool, true, false, true≢false, cond, not, List, [], ◌∷◌, ◌++◌, length, position, All, AllPairs, Option, Some, None, is_some, get_or, if◌then◌else◌, refl, sym, ap, subst, ◌∙◌, arith}
use Rattle.std.specs.Prelude.{nat_lt, option_map}
use Rattle.std.specs.List.{position_or_len}
use Rattle.std.specs.Map.{keys_of, remove_entry}
use Rattle.std.proofs.lemmas.Bool.{ltb-true, lt-ltb}
use Rattle.std.proofs.lemmas.Bool.Decides.{nat_tests}
use Rattle.std.proofs.lemmas.List.Elements.{All-cons, All-head, All-tail}
use Rattle.std.proofs.lemmas.List.Kept.{AllPairs-cons}
use Rattle.std.proofs.lemmas.List.Quantifiers.{all_pairs_push}
use Rattle.pg_wire.specs.declared.ids.PmuKey.{PmuKey}
use Rattle.pg_wire.specs.Keys.{key_eq}
use Rattle.pg_registry.specs.Registered.{Pmu, Pmus, IsRegistry, pmu_of, has_key, place_in, unannounced, changed}
use Rattle.pg_registry.proofs.Lists.{none_is_some, decides_same, keys-changed}

-- a key is like both of two equal ones, or like neither
eq_alike : (k a b : PmuKey) → key_eq a b ≡ true → key_eq k a ≡ key_eq k b
eq_alike k a b e = grind (arith, nat_tests)

unlike : (k a b : PmuKey) → key_eq k a ≡ true → key_eq b a ≡ false → key_eq k b ≡ false
unlike k a b e f = grind (arith, nat_tests)

same_key : (a b : PmuKey) → key_eq a b ≡ true → a ≡ b
same_key a b e = (decides_same a b).0 e

-- no key of the list is this one
abbrev NoneIs : PmuKey → Pmus → Type 0
NoneIs key ps = All (λ k. key ≢ k) (keys_of ps)

first_apart : (p : PmuKey × Pmu) (ps : Pmus) → AllPairs (λ a b. a ≢ b) (keys_of (p ∷ ps)) → NoneIs p.0 ps
first_apart p ps apart j d inside = apart 0 (suc j) d (omega arith) (omega arith)

later_apart : (p : PmuKey × Pmu) (ps : Pmus) → AllPairs (λ a b. a ≢ b) (keys_of (p ∷ ps)) → AllPairs (λ a b. a ≢ b) (keys_of ps)
later_apart p ps apart i j d less inside = apart (suc i) (suc j) d (omega arith) (omega arith)

none_found : (key k : PmuKey) (ps : Pmus) → NoneIs key ps → key_eq k key ≡ true → pmu_of ps k ≡ None
none_found key k [] none e = refl
none_found key k (p ∷ ps) none e = by (key_eq k p.0) refl (none_found key k ps (λ j d inside. none (suc j) d (omega arith)) e)
  where
    by : (b : Bool) → key_eq k p.0 ≡ b → pmu_of ps k ≡ None → cond b (Some p.1) (pmu_of ps k) ≡ None
    by true f rest = absurd (none 0 p.0 (omega arith) (sym (same_key k key e) ∙ same_key k p.0 f))
    by false f rest = rest

-- Keys stay apart.
length-changed : (change : Pmu → Pmu) (key : PmuKey) (ps : Pmus) → length (changed change key ps) ≡ length ps
length-changed change key [] = refl
length-changed change key (p ∷ ps) = by (key_eq key p.0) (length-changed change key ps)
  where
    by : (b : Bool) → length (changed change key ps) ≡ length ps → length (if b then (p.0, change p.1) ∷ ps else p ∷ changed change key ps) ≡ length (p ∷ ps)
    by true rest = refl
    by false rest = ap suc rest

pub apart-none : IsRegistry []
apart-none = record { distinct = λ i j d less inside. absurd (omega arith); few = omega arith }

pub apart-changed : (ps : Pmus) (change : Pmu → Pmu) (key : PmuKey) → IsRegistry ps → IsRegistry (changed change key ps)
apart-changed ps change key is = record {
  distinct = subst (λ ks. AllPairs (λ a b. a ≢ b) ks) (sym (keys-changed change key ps)) is.distinct;
  few = omega (arith, length-changed change key ps, is.few);
}

keys-push : (ps : Pmus) (key : PmuKey) (pmu : Pmu) → keys_of (ps ++ (key, pmu) ∷ []) ≡ keys_of ps ++ key ∷ []
keys-push [] key pmu = refl
keys-push (p ∷ ps) key pmu = ap (λ l. p.0 ∷ l) (keys-push ps key pmu)

length-push : (ps : Pmus) (key : PmuKey) (pmu : Pmu) → length (ps ++ (key, pmu) ∷ []) ≡ length ps + 1
length-push [] key pmu = refl
length-push (p ∷ ps) key pmu = omega (arith, length-push ps key pmu)

-- a key that is not found is none of the list
other_keys : (ps : Pmus) (key : PmuKey) → has_key ps key ≡ false → (i : ℕ) (d : PmuKey) → i < length (keys_of ps) → get_or (keys_of ps) i d ≢ key
other_keys [] key none i d inside = absurd (omega (arith, inside))
other_keys (p ∷ ps) key none i d inside = by (key_eq key p.0) refl none (other_keys ps key)
  where
    place : (j : ℕ) → key_eq key p.0 ≡ false → ((k : ℕ) (e : PmuKey) → k < length (keys_of ps) → get_or (keys_of ps) k e ≢ key) → j < length (keys_of (p ∷ ps)) → get_or (keys_of (p ∷ ps)) j d ≢ key
    place zero e rest within same = true≢false (sym ((decides_same key p.0).1 (sym same)) ∙ e)
    place (suc j) e rest within same = rest j d (omega (arith, within)) same

    by : (b : Bool) → key_eq key p.0 ≡ b → is_some (cond b (Some p.1) (pmu_of ps key)) ≡ false
        → (has_key ps key ≡ false → (k : ℕ) (e : PmuKey) → k < length (keys_of ps) → get_or (keys_of ps) k e ≢ key) → get_or (keys_of (p ∷ ps)) i d ≢ key
    by true e none rest = absurd (true≢false none)
    by false e none rest = place i e (rest none) inside

pub apart-added : (ps : Pmus) (key : PmuKey) → IsRegistry ps → has_key ps key ≡ false → length ps < 256 → IsRegistry (ps ++ (key, unannounced) ∷ [])
apart-added ps key is none few = record {
  distinct = subst (λ ks. AllPairs (λ a b. a ≢ b) ks) (sym (keys-push ps key unannounced)) (all_pairs_push (λ a b. a ≢ b) (keys_of ps) key is.distinct (other_keys ps key none));
  few = omega (arith, length-push ps key unannounced, few);
}

none-dropped : (key k : PmuKey) (ps : Pmus) → NoneIs key ps → NoneIs key (remove_entry (key_eq k) ps)
none-dropped key k [] none = none
none-dropped key k (p ∷ ps) none = by (key_eq k p.0) (none-dropped key k ps (All-tail (λ q. key ≢ q) p.0 (keys_of ps) none))
  where
    by : (b : Bool) → NoneIs key (remove_entry (key_eq k) ps) → NoneIs key (cond b ps (p ∷ remove_entry (key_eq k) ps))
    by true rest = All-tail (λ q. key ≢ q) p.0 (keys_of ps) none
    by false rest = All-cons (λ q. key ≢ q) p.0 (keys_of (remove_entry (key_eq k) ps)) (All-head (λ q. key ≢ q) p.0 (keys_of ps) none) rest

distinct-dropped : (ps : Pmus) (key : PmuKey) → AllPairs (λ a b. a ≢ b) (keys_of ps) → AllPairs (λ a b. a ≢ b) (keys_of (remove_entry (key_eq key) ps))
distinct-dropped [] key apart = apart
distinct-dropped (p ∷ ps) key apart = by (key_eq key p.0) (distinct-dropped ps key (later_apart p ps apart))
  where
    by : (b : Bool) → AllPairs (λ a b. a ≢ b) (keys_of (remove_entry (key_eq key) ps)) → AllPairs (λ a b. a ≢ b) (keys_of (cond b ps (p ∷ remove_entry (key_eq key) ps)))
    by true rest = later_apart p ps apart
    by false rest = AllPairs-cons (λ a b. a ≢ b) p.0 (keys_of (remove_entry (key_eq key) ps)) (none-dropped p.0 key ps (first_apart p ps apart)) rest

length-dropped : (ps : Pmus) (key : PmuKey) → length (remove_entry (key_eq key) ps) ≤ length ps
length-dropped [] key = omega arith
length-dropped (p ∷ ps) key = by (key_eq key p.0) (length-dropped ps key)
  where
    by : (b : Bool) → length (remove_entry (key_eq key) ps) ≤ length ps → length (cond b ps (p ∷ remove_entry (key_eq key) ps)) ≤ length (p ∷ ps)
    by true rest = omega arith
    by false rest = omega (arith, rest)

pub apart-dropped : (ps : Pmus) (key : PmuKey) → IsRegistry ps → IsRegistry (remove_entry (key_eq key) ps)
apart-dropped ps key is = record { distinct = distinct-dropped ps key is.distinct; few = omega (arith, length-dropped ps key, is.few) }

-- What is done at one key leaves the others.
pub found-added : (ps : Pmus) (key k : PmuKey) → has_key ps key ≡ false → pmu_of (ps ++ (key, unannounced) ∷ []) k ≡ (if key_eq k key then Some unannounced else pmu_of ps k)
found-added [] key k none = by (key_eq k key)
  where
    by : (b : Bool) → cond b (Some unannounced) None ≡ (if b then Some unannounced else None)
    by true = refl
    by false = refl
found-added (p ∷ ps) key k none = by (key_eq key p.0) refl none (key_eq k p.0) refl (found-added ps key k)
  where
    by : (b : Bool) → key_eq key p.0 ≡ b → is_some (cond b (Some p.1) (pmu_of ps key)) ≡ false → (first : Bool) → key_eq k p.0 ≡ first
        → (has_key ps key ≡ false → pmu_of (ps ++ (key, unannounced) ∷ []) k ≡ (if key_eq k key then Some unannounced else pmu_of ps k))
        → cond first (Some p.1) (pmu_of (ps ++ (key, unannounced) ∷ []) k) ≡ (if key_eq k key then Some unannounced else cond first (Some p.1) (pmu_of ps k))
    by true e none first f rest = absurd (true≢false none)
    by false e none true f rest = rw (unlike k p.0 key f e) refl
    by false e none false f rest = rest none

pub found-changed : (ps : Pmus) (change : Pmu → Pmu) (key k : PmuKey) → pmu_of (changed change key ps) k ≡ (if key_eq k key then option_map change (pmu_of ps k) else pmu_of ps k)
found-changed [] change key k = by (key_eq k key)
  where
    by : (b : Bool) → ◌≡◌ {A = Option Pmu} None (if b then None else None)
    by true = refl
    by false = refl
found-changed (p ∷ ps) change key k = by (key_eq key p.0) refl (key_eq k p.0) refl (found-changed ps change key k)
  where
    by : (b : Bool) → key_eq key p.0 ≡ b → (first : Bool) → key_eq k p.0 ≡ first → pmu_of (changed change key ps) k ≡ (if key_eq k key then option_map change (pmu_of ps k) else pmu_of ps k)
        → pmu_of (if b then (p.0, change p.1) ∷ ps else p ∷ changed change key ps) k ≡ (if key_eq k key then option_map change (cond first (Some p.1) (pmu_of ps k)) else cond first (Some p.1) (pmu_of ps k))
    by true e true f rest = rw (eq_alike k key p.0 e, f) refl
    by true e false f rest = rw (eq_alike k key p.0 e, f) refl
    by false e true f rest = rw (unlike k p.0 key f e, f) refl
    by false e false f rest = rw f rest

pub found-dropped : (ps : Pmus) (key k : PmuKey) → IsRegistry ps → pmu_of (remove_entry (key_eq key) ps) k ≡ (if key_eq k key then None else pmu_of ps k)
found-dropped ps key k is = dropped ps is.distinct
  where
    dropped : (qs : Pmus) → AllPairs (λ a b. a ≢ b) (keys_of qs) → pmu_of (remove_entry (key_eq key) qs) k ≡ (if key_eq k key then None else pmu_of qs k)
    dropped [] apart = by (key_eq k key)
      where
        by : (b : Bool) → ◌≡◌ {A = Option Pmu} None (if b then None else None)
        by true = refl
        by false = refl
    dropped (q ∷ qs) apart = by (key_eq key q.0) refl (key_eq k q.0) refl (dropped qs (later_apart q qs apart))
      where
        by : (b : Bool) → key_eq key q.0 ≡ b → (first : Bool) → key_eq k q.0 ≡ first → pmu_of (remove_entry (key_eq key) qs) k ≡ (if key_eq k key then None else pmu_of qs k)
            → pmu_of (cond b qs (q ∷ remove_entry (key_eq key) qs)) k ≡ (if key_eq k key then None else cond first (Some q.1) (pmu_of qs k))
        by true e true f rest = rw (eq_alike k key q.0 e, f) (none_found q.0 k qs (first_apart q qs apart) f)
        by true e false f rest = rw (eq_alike k key q.0 e, f) refl
        by false e true f rest = rw (unlike k q.0 key f e, f) refl
        by false e false f rest = rw f rest

-- Places stay.
place_before : (test : PmuKey → Bool) (ks more : List PmuKey) → position_or_len test ks < length ks → position_or_len test (ks ++ more) ≡ position_or_len test ks
place_before test [] more inside = absurd (omega (arith, inside))
place_before test (k ∷ ks) more inside = by (test k) (place_before test ks more) inside
  where
    by : (b : Bool) → (position_or_len test ks < length ks → position_or_len test (ks ++ more) ≡ position_or_len test ks)
        → cond (not b) (1 + position_or_len test ks) 0 < length (k ∷ ks) → cond (not b) (1 + position_or_len test (ks ++ more)) 0 ≡ cond (not b) (1 + position_or_len test ks) 0
    by true rest inside = refl
    by false rest inside = ap (λ n. 1 + n) (rest (omega (arith, inside)))

position-before : (test : PmuKey → Bool) (ks : List PmuKey) (key : PmuKey) (place : ℕ) → position test ks ≡ Some place → position test (ks ++ key ∷ []) ≡ Some place
position-before test ks key place found = by (nat_lt (position_or_len test ks) (length ks)) refl found
  where
    by : (b : Bool) → nat_lt (position_or_len test ks) (length ks) ≡ b → cond b (Some (position_or_len test ks)) None ≡ Some place → position test (ks ++ key ∷ []) ≡ Some place
    by true e found =
        let inside = ltb-true (position_or_len test ks) (length ks) e in
        let same = place_before test ks (key ∷ []) inside in
        rw (same, lt-ltb (position_or_len test ks) (length (ks ++ key ∷ [])) (omega (arith, inside, length-one ks key))) found
      where
        length-one : (ks : List PmuKey) (key : PmuKey) → length (ks ++ key ∷ []) ≡ length ks + 1
        length-one [] key = refl
        length-one (k ∷ ks) key = omega (arith, length-one ks key)
    by false e found = absurd (none_is_some found)

pub place-added : (ps : Pmus) (key k : PmuKey) (pmu : Pmu) (place : ℕ) → place_in ps k ≡ Some place → place_in (ps ++ (key, pmu) ∷ []) k ≡ Some place
place-added ps key k pmu place found = ap (λ ks. position (key_eq k) ks) (keys-push ps key pmu) ∙ position-before (key_eq k) (keys_of ps) key place found

pub place-changed : (ps : Pmus) (change : Pmu → Pmu) (key k : PmuKey) → place_in (changed change key ps) k ≡ place_in ps k
place-changed ps change key k = ap (λ ks. position (key_eq k) ks) (keys-changed change key ps)
