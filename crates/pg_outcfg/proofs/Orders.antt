-- The order of keys, by its tests.
use Rattle.std.proofs.Common.{◌≡◌, ℕ, ◌≤◌, true, false, arith}
use Rattle.std.proofs.lemmas.Bool.Decides.{nat_tests}
use Rattle.std.specs.Ordering.{nat_cmp, ordering_then, ordering_index}
use Rattle.std.specs.declared.cmp.Ordering.{Ordering}
use Rattle.std.specs.declared.cmp.Ordering.TheVariants.{Less, Equal, Greater}
use Rattle.pg_wire.specs.declared.ids.PmuKey.{PmuKey}
use Rattle.pg_wire.specs.Keys.{key_eq, key_before}

-- one that comes before is another key
pub before_is_other : (a b : PmuKey) → key_before a b ≡ true → key_eq a b ≡ false
before_is_other a b e = grind (arith, nat_tests)

pub after_is_other : (a b : PmuKey) → key_before a b ≡ true → key_eq b a ≡ false
after_is_other a b e = grind (arith, nat_tests)

-- and does not come after
pub before_not_after : (a b : PmuKey) → key_before a b ≡ true → key_before b a ≡ false
before_not_after a b e = grind (arith, nat_tests)

pub before_trans : (a b c : PmuKey) → key_before a b ≡ true → key_before b c ≡ true → key_before a c ≡ true
before_trans a b c e f = grind (arith, nat_tests)

-- of two keys one comes before the other, or they are the same
pub comes_after : (a b : PmuKey) → key_eq a b ≡ false → key_before a b ≡ false → key_before b a ≡ true
comes_after a b e f = grind (arith, nat_tests)

-- a key equal to one that comes before comes before
pub eq_before : (a b c : PmuKey) → key_eq a b ≡ true → key_before b c ≡ true → key_before a c ≡ true
eq_before a b c e f = grind (arith, nat_tests)

pub before_eq : (a b c : PmuKey) → key_before a b ≡ true → key_eq c b ≡ true → key_before a c ≡ true
before_eq a b c e f = grind (arith, nat_tests)

-- a key is like both of two equal ones
pub eq_alike : (k a b : PmuKey) → key_eq a b ≡ true → key_eq k a ≡ key_eq k b
eq_alike k a b e = grind (arith, nat_tests)

-- or like neither
pub unlike : (k a b : PmuKey) → key_eq k a ≡ true → key_eq a b ≡ false → key_eq k b ≡ false
unlike k a b e f = grind (arith, nat_tests)

-- the order by which a search goes
abbrev pub key_cmp : PmuKey → PmuKey → Ordering
key_cmp a b = ordering_then (nat_cmp a.source b.source) (nat_cmp a.pmu b.pmu)

pub less_is_before : (a b : PmuKey) → key_cmp a b ≡ Less → key_before a b ≡ true
less_is_before a b e = grind (arith, nat_tests, e)

pub greater_is_after : (a b : PmuKey) → key_cmp a b ≡ Greater → key_before b a ≡ true
greater_is_after a b e = grind (arith, nat_tests, e)

pub equal_is_same : (a b : PmuKey) → key_cmp a b ≡ Equal → key_eq b a ≡ true
equal_is_same a b e = grind (arith, nat_tests, e)

pub cmp_rises : (a b k : PmuKey) → key_before a b ≡ true → ordering_index (key_cmp a k) ≤ ordering_index (key_cmp b k)
cmp_rises a b k e = grind (arith, nat_tests, e)

same_fields : (source pmu other_source other : ℕ) → source ≡ other_source → pmu ≡ other
    → ◌≡◌ {A = PmuKey} (record { source = source; pmu = pmu }) (record { source = other_source; pmu = other })
same_fields source pmu other_source other first second = cc

-- keys that test as the same are the same
pub same_key : (a b : PmuKey) → key_eq a b ≡ true → a ≡ b
same_key a b e = same_fields a.source a.pmu b.source b.pmu (grind (arith, nat_tests)) (grind (arith, nat_tests))

pub own_key : (a : PmuKey) → key_eq a a ≡ true
own_key a = grind (arith, nat_tests)
