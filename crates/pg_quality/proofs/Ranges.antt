-- The range of a number by its highest power of two, and the least number of a range.
use Rattle.std.proofs.Common.{◌≡◌, ℕ, zero, suc, ◌+◌, ◌-◌, ◌*◌, ◌/◌, ◌%◌, ◌^◌, ◌<◌, ◌≤◌, min, inl, inr, refl, sym, ap, ◌∙◌, lit<, arith}
use Rattle.std.proofs.lemmas.Bool.{cases_lt}
use Rattle.std.proofs.lemmas.Bool.Decides.{nat_tests}
use Rattle.std.proofs.lemmas.Nat.{pow-add, pow_pos, shl_below, shl_whole, shr_below, shr-shr}
use Rattle.std.proofs.Math.Nat.{pow-le-pow_right, two-pow-succ}
use Rattle.pg_quality.specs.Delaying.{range_in}

-- a number below 8 has a range of its own
range-small : (fuel n : ℕ) → n < 8 → range_in fuel n ≡ n
unfolding range_in
range-small zero n h = refl
range-small (suc fuel) n h = grind (arith, nat_tests)

pub range_small : (n : ℕ) → n < 8 → range_in 20 n ≡ n
range_small n h = range-small 20 n h

range-half : (fuel n : ℕ) → 8 ≤ n → range_in (suc fuel) n ≡ 4 + range_in fuel (n / 2)
unfolding range_in
range-half fuel n h = grind (arith, nat_tests)

-- another one's is by how often it has to be halved
range-large : (s fuel n : ℕ) → s ≤ fuel → 4 * 2 ^ s ≤ n → n < 8 * 2 ^ s → range_in fuel n ≡ 4 * s + n / 2 ^ s
range-large zero fuel n le low high =
    let whole : n ≡ 4 * zero + n / 2 ^ zero = omega arith in
    range-small fuel n (omega (arith, high)) ∙ whole
range-large (suc s) zero n le low high = absurd (omega (arith, le))
range-large (suc s) (suc fuel) n le low high =
    let twice : 2 ^ suc s ≡ 2 ^ s + 2 ^ s = two-pow-succ s in
    let some : 0 < 2 ^ s = pow_pos s in
    let half : range_in fuel (n / 2) ≡ 4 * s + n / 2 / 2 ^ s = range-large s fuel (n / 2) (omega (arith, le)) (omega (arith, low, twice)) (omega (arith, high, twice)) in
    let next : 1 + s ≡ suc s = omega arith in
    let same : n / 2 / 2 ^ s ≡ n / 2 ^ suc s = shr-shr n 1 s ∙ ap (λ (k : ℕ). n / 2 ^ k) next in
    range-half fuel n (omega (arith, low, twice, some)) ∙ omega (arith, half, same)

-- a number below 2 ^ 18 has 18 binary digits at most
below-18 : (s m : ℕ) → 2 ^ s ≤ m → m < 2 ^ 18 → s < 18
below-18 s m a b = elim (cases_lt s 18) [
  | inl h ↦ h
  | inr h ↦
      let more : 2 ^ 18 ≤ 2 ^ s = pow-le-pow_right (lit< tt) h in
      absurd (omega (arith, a, b, more))
]

-- the range of a number from 8 on, where 2 ^ s is the highest power of two up to a quarter of it
pub range_by_log : (s n : ℕ) → 8 ≤ n → n < 2 ^ 20 → 2 ^ s ≤ n / 4 → n / 4 < 2 * 2 ^ s → 4 * s + n / 2 ^ s ≡ range_in 20 n
range_by_log s n large below low high =
    let fits : s < 18 = below-18 s (n / 4) low (omega (arith, below)) in
    sym (range-large s 20 n (omega (arith, fits)) (omega (arith, low)) (omega (arith, high)))

-- the last range has all that are greater
pub range_most : (n : ℕ) → 2 ^ 20 ≤ n → range_in 20 (min n (2 ^ 20 - 1)) ≡ 75
range_most n h =
    let most : min n (2 ^ 20 - 1) ≡ 2 ^ 20 - 1 = omega (arith, h) in
    ap (λ (k : ℕ). range_in 20 k) most ∙ (range-large 17 20 (2 ^ 20 - 1) (omega arith) (omega arith) (omega arith) ∙ omega arith)

pub range_below : (s n : ℕ) → 8 ≤ n → n < 2 ^ 20 → 2 ^ s ≤ n / 4 → n / 4 < 2 * 2 ^ s → 4 * s + n / 2 ^ s < 76
range_below s n large below low high =
    let fits : s < 18 = below-18 s (n / 4) low (omega (arith, below)) in
    let sum : 2 ^ (3 + s) ≡ 2 ^ 3 * 2 ^ s = pow-add 2 3 s in
    let digits : n / 2 ^ s < 2 ^ 3 = shr_below n 3 s (omega (arith, high, sum)) in
    omega (arith, digits, fits)

-- ---- the least number of a range

pub start_fits : (range : ℕ) → range ≤ 76 → (4 + range % 4) * 2 ^ (range / 4 - 1) < 2 ^ 22
start_fits range h =
    let below : (4 + range % 4) * 2 ^ (range / 4 - 1) < 2 ^ (3 + (range / 4 - 1)) = shl_below (4 + range % 4) 3 (range / 4 - 1) (omega arith) in
    let most : 2 ^ (3 + (range / 4 - 1)) ≤ 2 ^ 22 = pow-le-pow_right (lit< tt) {i = 3 + (range / 4 - 1)} {j = 22} (omega (arith, h)) in
    omega (arith, below, most)

pub start_whole : (range : ℕ) → range ≤ 76 → ((4 + range % 4) * 2 ^ (range / 4 - 1)) % 2 ^ 64 ≡ (4 + range % 4) * 2 ^ (range / 4 - 1)
start_whole range h = shl_whole (4 + range % 4) 3 (range / 4 - 1) 64 (omega arith) (omega (arith, h))
