-- What a search for a key among keys that rise finds, and what an edit at that place does.
use Rattle.std.proofs.Common.{◌≡◌, ℕ, zero, suc, ◌<◌, ◌≤◌, Bool, true, false, ◌||◌, List, [], ◌∷◌, length, Result, Ok, Err, IfOk, IfErr, is_ok, refl, sym, ap, inl, inr, arith}
use Rattle.std.specs.List.{insert, remove}
use Rattle.std.specs.List.Sorted.{IsSearchInRange, IsBinarySearchResult, IsNonDecreasingBy}
use Rattle.std.specs.Ordering.{nat_cmp, ordering_then, ordering_index}
use Rattle.std.specs.declared.cmp.Ordering.{Ordering}
use Rattle.std.specs.declared.cmp.Ordering.TheVariants.{Less, Greater}
use Rattle.std.proofs.lemmas.List.Sorted.{IsNonDecreasingBy-from_default}
use Rattle.std.proofs.lemmas.Bool.{cases_lt}
use Rattle.std.proofs.lemmas.Bool.Decides.{nat_tests}
use Rattle.pg_wire.specs.declared.ids.PmuKey.{PmuKey}
use Rattle.pg_wire.specs.Keys.{key_eq, key_before}
use Rattle.pg_entitle.specs.Grants.{IsRising, has_key, with_key, without_key}
use Rattle.pg_entitle.specs.Places.{key_at, IsAt, IsGapFor}
use Rattle.pg_entitle.proofs.Orders.{before_is_other, before_not_after, before_eq}

-- no key before place i is this one
abbrev IsNoneBelow : List PmuKey → PmuKey → ℕ → Type 0
IsNoneBelow keys key i = (j : ℕ) → j < i → key_eq key (key_at keys j) ≡ false

none_later : (k : PmuKey) (ks : List PmuKey) (key : PmuKey) (i : ℕ) → IsNoneBelow (k ∷ ks) key (suc i) → IsNoneBelow ks key i
none_later k ks key i none j less = none (suc j) (omega arith)

-- a key that none is equal to is not held
absent : (keys : List PmuKey) (key : PmuKey) → IsNoneBelow keys key (length keys) → has_key keys key ≡ false
absent [] key none = refl
absent (k ∷ ks) key none = rw (none 0 (omega arith)) (absent ks key (none_later k ks key (length ks) none))

-- one that is found is held
present : (keys : List PmuKey) (key : PmuKey) (i : ℕ) → i < length keys → key_eq key (key_at keys i) ≡ true → has_key keys key ≡ true
present [] key i inside e = absurd (omega (arith, inside))
present (k ∷ ks) key zero inside e = rw e refl
present (k ∷ ks) key (suc i) inside e = by (key_eq key k) (present ks key i (omega (arith, inside)) e)
  where
    by : (b : Bool) → has_key ks key ≡ true → (b || has_key ks key) ≡ true
    by true held = refl
    by false held = held

-- a key put at its gap stands at its place in the order
pub with_key-insert : (keys : List PmuKey) (key : PmuKey) (i : ℕ) → IsGapFor keys key i → with_key keys key ≡ insert keys i key
with_key-insert [] key zero gap = refl
with_key-insert [] key (suc i) gap = absurd (omega (arith, gap.in_range))
with_key-insert (k ∷ ks) key zero gap =
    let before = gap.after 0 (omega arith) (omega arith) in
    rw ((before_is_other key k before).0, before) refl
with_key-insert (k ∷ ks) key (suc i) gap =
    let before = gap.before 0 (omega arith) in
    let rest : IsGapFor ks key i = record {
      in_range = omega (arith, gap.in_range);
      before = λ j less. gap.before (suc j) (omega arith);
      after = λ j from less. gap.after (suc j) (omega arith) (omega arith);
    } in
    rw ((before_is_other k key before).1, before_not_after k key before) (ap (λ l. k ∷ l) (with_key-insert ks key i rest))

-- the first that is equal is what goes
without_key-remove : (keys : List PmuKey) (key : PmuKey) (i : ℕ) → i < length keys → key_eq key (key_at keys i) ≡ true → IsNoneBelow keys key i → without_key keys key ≡ remove keys i
without_key-remove [] key i inside e none = absurd (omega (arith, inside))
without_key-remove (k ∷ ks) key zero inside e none = rw e refl
without_key-remove (k ∷ ks) key (suc i) inside e none = rw (none 0 (omega arith)) (ap (λ l. k ∷ l) (without_key-remove ks key i (omega (arith, inside)) e (none_later k ks key i none)))

pub held_at : (keys : List PmuKey) (key : PmuKey) (i : ℕ) → IsAt keys key i → has_key keys key ≡ true
held_at keys key i at = present keys key i at.in_range at.is_key

-- those below its place are other keys
pub without_key-at : (keys : List PmuKey) (key : PmuKey) (i : ℕ) → IsRising keys → IsAt keys key i → without_key keys key ≡ remove keys i
without_key-at keys key i rising at =
    without_key-remove keys key i at.in_range at.is_key (λ j less. (before_is_other _ key (before_eq _ _ key (rising j i (record { source = 0; pmu = 0 }) less at.in_range) at.is_key)).1)

pub absent_in_gap : (keys : List PmuKey) (key : PmuKey) (i : ℕ) → IsGapFor keys key i → has_key keys key ≡ false
absent_in_gap keys key i gap = absent keys key (λ j inside. elim (cases_lt j i) [
  | inl below ↦ (before_is_other _ key (gap.before j below)).1
  | inr from ↦ (before_is_other key _ (gap.after j from inside)).0
])

-- what a search answers tells whether the key is held
pub found_is_held : (keys : List PmuKey) (key : PmuKey) (r : Result ℕ ℕ) → IfOk r (IsAt keys key) → IfErr r (IsGapFor keys key) → is_ok r ≡ has_key keys key
found_is_held keys key (Ok i) at gap = sym (held_at keys key i at)
found_is_held keys key (Err i) at gap = sym (absent_in_gap keys key i gap)

-- the order by which a search goes
abbrev key_cmp : PmuKey → PmuKey → Ordering
key_cmp a b = ordering_then (nat_cmp a.source b.source) (nat_cmp a.pmu b.pmu)

less_is_before : (a b : PmuKey) → key_cmp a b ≡ Less → key_before a b ≡ true
less_is_before a b e = grind (arith, nat_tests, e)

greater_is_after : (a b : PmuKey) → key_cmp a b ≡ Greater → key_before b a ≡ true
greater_is_after a b e = grind (arith, nat_tests, e)

cmp_rises : (a b k : PmuKey) → key_before a b ≡ true → ordering_index (key_cmp a k) ≤ ordering_index (key_cmp b k)
cmp_rises a b k e = grind (arith, nat_tests, e)

module _ (keys : List PmuKey) (rising : IsRising keys) (key : PmuKey) where
  comparisons_rise : IsNonDecreasingBy (λ k. ordering_index (key_cmp k key)) keys
  comparisons_rise = IsNonDecreasingBy-from_default (λ k. ordering_index (key_cmp k key)) keys (record { source = 0; pmu = 0 }) (λ i j le inside. elim (cases_lt i j) [
    | inl below ↦ cmp_rises _ _ key (rising i j (record { source = 0; pmu = 0 }) below inside)
    | inr from ↦ (let same : i ≡ j = omega arith in rw same (omega arith))
  ])

  -- a search that ends without the key ends at the gap for it
  pub gap_found : (r : Result ℕ ℕ) → IsSearchInRange r (length keys) → IsBinarySearchResult (λ k. key_cmp k key) keys r → IfErr r (IsGapFor keys key)
  gap_found (Ok at) in_range equal = tt
  gap_found (Err at) in_range parted = record {
    in_range = in_range;
    before = λ j less. less_is_before _ key ((parted comparisons_rise).0 j (record { source = 0; pmu = 0 }) (omega arith) less);
    after = λ j from less. greater_is_after _ key ((parted comparisons_rise).1 j (record { source = 0; pmu = 0 }) from less);
  }
