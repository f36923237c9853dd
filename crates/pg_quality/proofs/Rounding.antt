-- Products and quotients that fit.
use Rattle.std.proofs.Common.{ℕ, pos, negsuc, ℤ, ◌+◌, ◌-◌, ◌*◌, ◌/◌, ◌^◌, ◌<◌, ◌≤◌, ◌<ℤ◌, arith}
use Rattle.std.specs.Prelude.{unsigned_abs}
use Rattle.std.proofs.lemmas.Int.{ints}
use Rattle.std.proofs.lemmas.Nat.{div_below, mul-le}
use Rattle.std.proofs.Math.Nat.{div-le_self, mul-pos}

pub quotient_at_most : (n d : ℕ) → n / d ≤ n
quotient_at_most n d = div-le_self n d

-- tenths of a per cent, where one at least is missing
pub tenths_below : (received expected : ℕ) → received < expected → received * 1000 / expected < 1000
tenths_below received expected h = div_below (received * 1000) expected 1000 (omega (arith, h)) (omega (arith, h))

-- a stamp in parts of a second
pub time_fits : (soc base frac : ℕ) → soc < 2 ^ 32 → base < 2 ^ 32 → frac < 2 ^ 32 → soc * base + frac < 2 ^ 64 - 1
time_fits soc base frac a b c =
    let most : soc * base ≤ (2 ^ 32 - 1) * (2 ^ 32 - 1) = mul-le soc base (2 ^ 32 - 1) (2 ^ 32 - 1) (omega (arith, a)) (omega (arith, b)) in
    omega (arith, most, c)

-- a number of 32 bits by DATA_RATE
pub product_fits : (n units : ℕ) → n < 2 ^ 32 → units < 2 ^ 16 → n * units < 2 ^ 48
product_fits n units a b =
    let most : n * units ≤ (2 ^ 32 - 1) * (2 ^ 16 - 1) = mul-le n units (2 ^ 32 - 1) (2 ^ 16 - 1) (omega (arith, a)) (omega (arith, b)) in
    omega (arith, most)

pub product_fits_turned : (units n : ℕ) → units < 2 ^ 16 → n < 2 ^ 32 → units * n < 2 ^ 48
product_fits_turned units n b a =
    let most : units * n ≤ (2 ^ 16 - 1) * (2 ^ 32 - 1) = mul-le units n (2 ^ 16 - 1) (2 ^ 32 - 1) (omega (arith, b)) (omega (arith, a)) in
    omega (arith, most)

pub words_fit : (m n : ℕ) → m < 2 ^ 32 → n < 2 ^ 32 → m * n < 2 ^ 64
words_fit m n a b =
    let most : m * n ≤ (2 ^ 32 - 1) * (2 ^ 32 - 1) = mul-le m n (2 ^ 32 - 1) (2 ^ 32 - 1) (omega (arith, a)) (omega (arith, b)) in
    omega (arith, most)

-- thousandths of a count
pub rank_fits : (count thousandths : ℕ) → count < 2 ^ 40 → thousandths < 2 ^ 16 → count * thousandths < 2 ^ 56
rank_fits count thousandths a b =
    let most : count * thousandths ≤ (2 ^ 40 - 1) * (2 ^ 16 - 1) = mul-le count thousandths (2 ^ 40 - 1) (2 ^ 16 - 1) (omega (arith, a)) (omega (arith, b)) in
    omega (arith, most)

pub product_above : (a b : ℕ) → 0 < a → 0 < b → 0 < a * b
product_above a b p q = mul-pos p q

-- a number below 0 is not 0
pub negative_above : (z : ℤ) → z <ℤ pos 0 → 0 < unsigned_abs z
negative_above (pos n) h = absurd (omega (arith, ints, h))
negative_above (negsuc n) h = omega arith
