-- The tests of a definition's limits tell whether they are kept.
use Rattle.std.proofs.Common.{◌≡◌, ◌≢◌, ◌↔◌, ℕ, suc, ◌≤◌, Bool, true, false, not, List, [], ◌∷◌, length, All, AllPairs, Result, Ok, Err, IsTrue, refl, ap, ◌∙◌, arith, ◌^◌}
use Rattle.std.specs.Bool.{Decides}
use Rattle.std.specs.Prelude.{nat_le}
use Rattle.std.proofs.lemmas.Bool.Decides.{nat_tests, Decides-and, Decides-not, Decides-like, Decides-by_and, Decides-eqb, Decides-ltb, same_from_decides}
use Rattle.std.proofs.lemmas.List.Kept.{AllPairs-cons}
use Rattle.pg_wire.specs.declared.ids.PmuKey.{PmuKey}
use Rattle.pg_wire.specs.Keys.{key_eq}
use Rattle.pg_wire.specs.declared.refusal.Refusal.{Refusal}
use Rattle.pg_wire.specs.declared.refusal.Refusal.TheVariants.{BadDefinition}
use Rattle.pg_stream.specs.declared.definition.Definition.{Definition}
use Rattle.pg_stream.specs.Limits.{IsWithinLimits, HasNumbers, has_numbers, is_ascii, none_is, are_distinct, is_within_limits, answer_to}

-- Each test tells whether its limit is kept.
decides_le : (a b : ℕ) → Decides (nat_le a b) (a ≤ b)
decides_le a b = (λ e. grind (arith, nat_tests), λ h. grind (arith, nat_tests))

decides_numbers : (d : Definition) → Decides (has_numbers d) (HasNumbers d)
decides_numbers d = Decides-like (has_numbers d)
    (λ h. record { rate = h.0; base = h.1.0; window = h.1.1.0; wait = h.1.1.1 })
    (λ h. (h.rate, (h.base, (h.window, h.wait))))
    (Decides-and _ _ (Decides-and _ _ (decides_le 1 d.rate) (decides_le d.rate 120))
    (Decides-and _ _ (Decides-and _ _ (decides_le d.rate d.base) (Decides-ltb d.base (2 ^ 24)))
    (Decides-and _ _ (Decides-and _ _ (decides_le 1 d.window) (decides_le d.window 64)) (decides_le d.wait 60000))))

decides_ascii : (bytes : List ℕ) → Decides (is_ascii bytes) (All (λ byte. byte ≤ 127) bytes)
decides_ascii = Decides-by_and (λ byte. nat_le byte 127) (λ byte. byte ≤ 127) is_ascii (λ byte. decides_le byte 127) refl (λ _ _. refl)

-- keys of the same source and PMU are the same
same_fields : (source pmu other_source other : ℕ) → source ≡ other_source → pmu ≡ other
    → ◌≡◌ {A = PmuKey} (record { source = source; pmu = pmu }) (record { source = other_source; pmu = other })
same_fields source pmu other_source other first second = cc

decides_same : (a b : PmuKey) → Decides (key_eq a b) (a ≡ b)
decides_same a b = Decides-like (key_eq a b) (λ h. same_fields a.source a.pmu b.source b.pmu h.0 h.1) (λ e. (ap (λ (k : PmuKey). k.source) e, ap (λ (k : PmuKey). k.pmu) e)) (Decides-and _ _ (Decides-eqb a.source b.source) (Decides-eqb a.pmu b.pmu))

decides_none : (key : PmuKey) (keys : List PmuKey) → Decides (none_is key keys) (All (λ k. key ≢ k) keys)
decides_none key = Decides-by_and (λ k. not (key_eq key k)) (λ k. key ≢ k) (none_is key)
    (λ k. Decides-not (key_eq key k) (decides_same key k)) refl (λ _ _. refl)

-- what holds of all pairs holds of the first with each other one
first_pairs : (key : PmuKey) (keys : List PmuKey) → AllPairs (λ a b. a ≢ b) (key ∷ keys) → All (λ k. key ≢ k) keys
first_pairs key keys h = λ k d inside. h 0 (suc k) d (omega arith) (omega arith)

-- and of all pairs of the others
later_pairs : (key : PmuKey) (keys : List PmuKey) → AllPairs (λ a b. a ≢ b) (key ∷ keys) → AllPairs (λ a b. a ≢ b) keys
later_pairs key keys h = λ i j d less inside. h (suc i) (suc j) d (omega arith) (omega arith)

decides_distinct : (keys : List PmuKey) → Decides (are_distinct keys) (AllPairs (λ a b. a ≢ b) keys)
decides_distinct [] = ((λ _ i j d less inside. absurd (omega arith)), λ _. refl)
decides_distinct (key ∷ keys) = Decides-like (are_distinct (key ∷ keys))
    (λ h. AllPairs-cons (λ a b. a ≢ b) key keys h.0 h.1)
    (λ h. (first_pairs key keys h, later_pairs key keys h))
    (Decides-and (none_is key keys) (are_distinct keys) (decides_none key keys) (decides_distinct keys))

-- all of them together
pub decides_limits : (d : Definition) → Decides (is_within_limits d) (IsWithinLimits d)
unfolding is_within_limits
decides_limits d = Decides-like (is_within_limits d)
    (λ h. record { numbers = h.0; header = record { size = h.1.0.0; ascii = h.1.0.1 }; members = record { some = h.1.1.0; few = h.1.1.1.0; distinct = h.1.1.1.1 } })
    (λ h. (h.numbers, ((h.header.size, h.header.ascii), (h.members.some, (h.members.few, h.members.distinct)))))
    (Decides-and _ _ (decides_numbers d)
    (Decides-and _ _ (Decides-and _ _ (decides_le (length d.header) 1024) (decides_ascii d.header))
    (Decides-and _ _ (decides_le 1 (length d.members)) (Decides-and _ _ (decides_le (length d.members) 32) (decides_distinct d.members)))))

-- a test that is true exactly within the limits gives the answer
pub accepts : (d : Definition) (r : Bool) → r ≡ true → (IsTrue r ↔ IsWithinLimits d) → ◌≡◌ {A = Result Unit Refusal} (Ok tt) (answer_to d)
accepts d r taken same = rw ((decides_limits d).1 (same.0 taken)) refl

pub refuses : (d : Definition) (r : Bool) → r ≡ false → (IsTrue r ↔ IsWithinLimits d) → ◌≡◌ {A = Result Unit Refusal} (Err BadDefinition) (answer_to d)
refuses d r refused same = rw (same_from_decides (is_within_limits d) r (decides_limits d) same ∙ refused) refl
