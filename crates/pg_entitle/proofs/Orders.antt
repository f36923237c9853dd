-- The order of keys, and what its tests say.
use Rattle.std.proofs.Common.{◌≡◌, ℕ, true, false, arith}
use Rattle.std.proofs.lemmas.Bool.Decides.{nat_tests}
use Rattle.pg_wire.specs.declared.ids.PmuKey.{PmuKey}
use Rattle.pg_wire.specs.Keys.{key_eq, key_before}

pub eq_refl : (a : PmuKey) → key_eq a a ≡ true
eq_refl a = grind (arith, nat_tests)

fields_same : (source pmu other_source other : ℕ) → source ≡ other_source → pmu ≡ other
    → ◌≡◌ {A = PmuKey} (record { source = source; pmu = pmu }) (record { source = other_source; pmu = other })
fields_same source pmu other_source other first second = cc

-- keys that name one PMU are one key
pub same_of_eq : (a b : PmuKey) → key_eq a b ≡ true → a ≡ b
same_of_eq a b e = fields_same a.source a.pmu b.source b.pmu (grind (arith, nat_tests)) (grind (arith, nat_tests))

-- one that comes before is another key
pub before_is_other : (a b : PmuKey) → key_before a b ≡ true → (key_eq a b ≡ false) × (key_eq b a ≡ false)
before_is_other a b e = (grind (arith, nat_tests), grind (arith, nat_tests))

-- and does not come after
pub before_not_after : (a b : PmuKey) → key_before a b ≡ true → key_before b a ≡ false
before_not_after a b e = grind (arith, nat_tests)

-- of two keys that are not the same, one comes before
pub else_after : (a b : PmuKey) → key_eq a b ≡ false → key_before a b ≡ false → key_before b a ≡ true
else_after a b e f = grind (arith, nat_tests)

pub before_trans : (a b c : PmuKey) → key_before a b ≡ true → key_before b c ≡ true → key_before a c ≡ true
before_trans a b c e f = grind (arith, nat_tests)

-- a key equal to one that comes after comes after
pub before_eq : (a b c : PmuKey) → key_before a b ≡ true → key_eq c b ≡ true → key_before a c ≡ true
before_eq a b c e f = grind (arith, nat_tests)

-- a key equal to one that comes before comes before
pub eq_before : (a b c : PmuKey) → key_eq a b ≡ true → key_before b c ≡ true → key_before a c ≡ true
eq_before a b c e f = grind (arith, nat_tests)

-- a key is like both of two equal ones, or like neither
pub eq_alike : (k a b : PmuKey) → key_eq a b ≡ true → key_eq k a ≡ key_eq k b
eq_alike k a b e = grind (arith, nat_tests)

pub unlike : (k a b : PmuKey) → key_eq k a ≡ true → key_eq a b ≡ false → key_eq k b ≡ false
unlike k a b e f = grind (arith, nat_tests)
