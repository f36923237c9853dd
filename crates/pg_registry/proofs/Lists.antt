-- What a look-up, a write and a removal say of the list of registered PMUs.
use Rattle.std.proofs.Common.{◌≡◌, ℕ, zero, suc, Bool, true, false, true≢false, cond, [], ◌∷◌, Option, Some, None, is_some, if◌then◌else◌, refl, sym, ap, ◌∙◌}
use Rattle.std.specs.Prelude.{unwrap_or}
use Rattle.std.specs.Bool.{Decides}
use Rattle.std.specs.Map.{keys_of, set_value}
use Rattle.std.proofs.lemmas.Bool.Decides.{Decides-like, Decides-and, Decides-eqb}
use Rattle.indexmap.specs.IndexMap.{insert_entry}
use Rattle.indexmap.specs.Layout.{set_value_at}
use Rattle.indexmap.proofs.MapLemmas.{Found-position, insert_entry-first}
use Rattle.pg_wire.specs.declared.ids.PmuKey.{PmuKey}
use Rattle.pg_wire.specs.Keys.{key_eq}
use Rattle.pg_registry.specs.Registered.{Pmu, Pmus, pmu_of, place_in, pmu_at, changed, changed_at}

pub none_is_some : {A : Type 0} {x : A} → None ≡ Some x → ⊥
none_is_some e = true≢false (sym (ap is_some e))

same_some : {A : Type 0} {x y : A} → Some x ≡ Some y → x ≡ y
same_some {A} {x} e = ap (λ r. unwrap_or r x) e

pub none_of : {A : Type 0} (o : Option A) → is_some o ≡ false → o ≡ None
none_of None e = refl
none_of (Some x) e = absurd (true≢false e)

-- keys that name one PMU are one key, and the test tells it
fields_same : (source pmu other_source other : ℕ) → source ≡ other_source → pmu ≡ other
    → ◌≡◌ {A = PmuKey} (record { source = source; pmu = pmu }) (record { source = other_source; pmu = other })
fields_same source pmu other_source other first second = cc

pub decides_same : (a b : PmuKey) → Decides (key_eq a b) (a ≡ b)
decides_same a b = Decides-like (key_eq a b) (λ h. fields_same a.source a.pmu b.source b.pmu h.0 h.1) (λ e. (ap (λ (k : PmuKey). k.source) e, ap (λ (k : PmuKey). k.pmu) e)) (Decides-and _ _ (Decides-eqb a.source b.source) (Decides-eqb a.pmu b.pmu))

-- a write of the changed value at the key changes the key's PMU
pub changed-set : (change : Pmu → Pmu) (key : PmuKey) (ps : Pmus) (pmu : Pmu) → pmu_of ps key ≡ Some pmu → set_value (key_eq key) ps (change pmu) ≡ changed change key ps
changed-set change key [] pmu found = absurd (none_is_some found)
changed-set change key (p ∷ ps) pmu found = by (key_eq key p.0) (changed-set change key ps pmu) found
  where
    by : (b : Bool) → (pmu_of ps key ≡ Some pmu → set_value (key_eq key) ps (change pmu) ≡ changed change key ps) → cond b (Some p.1) (pmu_of ps key) ≡ Some pmu
        → cond b ((p.0, change pmu) ∷ ps) (p ∷ set_value (key_eq key) ps (change pmu)) ≡ (if b then (p.0, change p.1) ∷ ps else p ∷ changed change key ps)
    by true rest found = ap (λ v. (p.0, change v) ∷ ps) (sym (same_some found))
    by false rest found = ap (λ l. p ∷ l) (rest found)

-- nothing changes for a key that is not there
pub changed-absent : (change : Pmu → Pmu) (key : PmuKey) (ps : Pmus) → pmu_of ps key ≡ None → changed change key ps ≡ ps
changed-absent change key [] none = refl
changed-absent change key (p ∷ ps) none = by (key_eq key p.0) (changed-absent change key ps) none
  where
    by : (b : Bool) → (pmu_of ps key ≡ None → changed change key ps ≡ ps) → cond b (Some p.1) (pmu_of ps key) ≡ None → (if b then (p.0, change p.1) ∷ ps else p ∷ changed change key ps) ≡ p ∷ ps
    by true rest none = absurd (none_is_some (sym none))
    by false rest none = ap (λ l. p ∷ l) (rest none)

-- a write of the changed value at a place changes the PMU there
pub changed_at-set : (change : Pmu → Pmu) (place : ℕ) (ps : Pmus) (pmu : Pmu) → pmu_at ps place ≡ Some pmu → set_value_at ps place (change pmu) ≡ changed_at change place ps
changed_at-set change place [] pmu at = refl
changed_at-set change zero (p ∷ ps) pmu at = ap (λ v. (p.0, change v) ∷ ps) (sym (same_some at))
changed_at-set change (suc place) (p ∷ ps) pmu at = ap (λ l. p ∷ l) (changed_at-set change place ps pmu at)

-- a value inserted at a key that is there is written in its place
insert-set : (key : PmuKey) (ps : Pmus) (new pmu : Pmu) → pmu_of ps key ≡ Some pmu → insert_entry key_eq ps key new ≡ set_value (key_eq key) ps new
insert-set key [] new pmu found = absurd (none_is_some found)
insert-set key (p ∷ ps) new pmu found = by (key_eq key p.0) (insert-set key ps new pmu) found
  where
    by : (b : Bool) → (pmu_of ps key ≡ Some pmu → insert_entry key_eq ps key new ≡ set_value (key_eq key) ps new) → cond b (Some p.1) (pmu_of ps key) ≡ Some pmu
        → (if b then (p.0, new) ∷ ps else p ∷ insert_entry key_eq ps key new) ≡ cond b ((p.0, new) ∷ ps) (p ∷ set_value (key_eq key) ps new)
    by true rest found = refl
    by false rest found = ap (λ l. p ∷ l) (rest found)

-- the PMU at a key's place is the key's
pub at_place : (ps : Pmus) (key : PmuKey) (place : ℕ) → place_in ps key ≡ Some place → pmu_of ps key ≡ pmu_at ps place
at_place ps key place found = (Found-position (key_eq key) ps place found).value

-- a change at a key's place is a change of the key's
pub changed_at-keyed : (change : Pmu → Pmu) (ps : Pmus) (key : PmuKey) (place : ℕ) (pmu : Pmu) → place_in ps key ≡ Some place → pmu_at ps place ≡ Some pmu → changed_at change place ps ≡ changed change key ps
changed_at-keyed change ps key place pmu found at =
    let there = at_place ps key place found ∙ at in
    sym (changed_at-set change place ps pmu at)
    ∙ sym (insert_entry-first key_eq key (change pmu) ps place (Found-position (key_eq key) ps place found).first)
    ∙ insert-set key ps (change pmu) pmu there
    ∙ changed-set change key ps pmu there

-- a change leaves the keys
pub keys-changed : (change : Pmu → Pmu) (key : PmuKey) (ps : Pmus) → keys_of (changed change key ps) ≡ keys_of ps
keys-changed change key [] = refl
keys-changed change key (p ∷ ps) = by (key_eq key p.0) (keys-changed change key ps)
  where
    by : (b : Bool) → keys_of (changed change key ps) ≡ keys_of ps → keys_of (if b then (p.0, change p.1) ∷ ps else p ∷ changed change key ps) ≡ keys_of (p ∷ ps)
    by true rest = refl
    by false rest = ap (λ l. p.0 ∷ l) rest
