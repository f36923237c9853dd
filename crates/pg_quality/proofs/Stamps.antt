-- The stamps of the instant behind the last one of a span.
use Rattle.std.proofs.Common.{◌≡◌, ℕ, zero, suc, ◌+◌, ◌-◌, ◌*◌, ◌/◌, ◌%◌, ◌^◌, ◌<◌, ◌≤◌, ℤ, pos, negsuc, ◌<ℤ◌, true, inl, inr, refl, sym, ap, ◌∙◌, subst, arith}
use Rattle.std.specs.Prelude.{unsigned_abs, bit_or}
use Rattle.std.proofs.lemmas.Bool.{cases_lt}
use Rattle.std.proofs.lemmas.Bool.Decides.{nat_tests}
use Rattle.std.proofs.lemmas.Int.{ints}
use Rattle.std.proofs.lemmas.Nat.{div-mul-add, mod-mul-add, mul-le}
use Rattle.std.proofs.Math.Nat.{add-mul, div-le_self, mul-add, mul_assoc, mul-add-div_right, mul-add-mod_self_right, suc-mul}
use Rattle.pg_quality.specs.Instants.{instant_of, nearest}
use Rattle.pg_quality.specs.NextStamps.{AreNext, AreNextIfAny, is_among}
use Rattle.pg_quality.specs.Placing.{SpanState, instant_in, moved, place_in, place_of, taken}
use Rattle.pg_quality.specs.declared.frame_time.FrameTime.{FrameTime}
use Rattle.pg_quality.specs.declared.span.Span.{Span}
use Rattle.pg_quality.specs.declared.span.Place.{Place}
use Rattle.pg_quality.specs.declared.span.Place.TheVariants.{After}
use Rattle.pg_quality.specs.declared.spans.NextStamps.{NextStamps}

-- ---- the nearest whole number

near-above : (n d m r : ℕ) → 0 < d → n ≡ m * d + r → 2 * r < d → nearest n d ≡ m
near-above n d m r some is low =
    let q : (m * d + r) / d ≡ m = div-mul-add m d r (omega (arith, low)) in
    let p : (m * d + r) % d ≡ r = mod-mul-add m d r (omega (arith, low)) in
    rw (is, q, p) (grind (arith, nat_tests))

near-below : (n d k r : ℕ) → 0 < d → n ≡ k * d + r → r < d → d ≤ 2 * r → nearest n d ≡ k + 1
near-below n d k r some is fits high =
    let q : (k * d + r) / d ≡ k = div-mul-add k d r fits in
    let p : (k * d + r) % d ≡ r = mod-mul-add k d r fits in
    rw (is, q, p) (grind (arith, nat_tests))

-- within half of a multiple
nearest-is : (m n d : ℕ) → 0 < d → 2 * (m * d) ≤ 2 * n + d → 2 * n < 2 * (m * d) + d → nearest n d ≡ m
nearest-is zero n d some low high = near-above n d zero n some (omega arith) (omega (arith, high))
nearest-is (suc k) n d some low high =
    let next : suc k * d ≡ k * d + d = suc-mul k d in
    elim (cases_lt n (suc k * d)) [
      | inl below ↦ near-below n d k (n - k * d) some (omega (arith, low, next)) (omega (arith, below, next, low)) (omega (arith, low, next)) ∙ omega arith
      | inr above ↦ near-above n d (suc k) (n - suc k * d) some (omega (arith, above)) (omega (arith, above, high))
    ]

-- whole numbers apart
nearest-shift : (q n d : ℕ) → 0 < d → nearest (q * d + n) d ≡ q + nearest n d
nearest-shift q n d some =
    let e : (q * d + n) / d ≡ q + n / d = mul-add-div_right some q n in
    let f : (q * d + n) % d ≡ n % d = mul-add-mod_self_right q d n in
    rw (e, f) (omega arith)

-- ---- the instant behind the last

twice : (a b : ℕ) → a * (2 * b) ≡ 2 * (a * b)
twice a b =
    let e : 2 * b ≡ b + b = omega arith in
    ap (λ (k : ℕ). a * k) e ∙ (mul-add a b b ∙ omega arith)

odd-times : (a b : ℕ) → (2 * a + 1) * b ≡ 2 * (a * b) + b
odd-times a b = omega (arith, add-mul (2 * a) 1 b, mul_assoc 2 a b)

one-more-times : (a b : ℕ) → (a + 1) * b ≡ a * b + b
one-more-times a b = omega (arith, add-mul a 1 b)

next-of : (units base last soc frac from : ℕ) → 0 < base → from + 2 * (soc * units * base) ≡ (2 * last + 1) * base
    → from ≤ frac * (2 * units) → frac * (2 * units) < from + 2 * base → soc * units + nearest (frac * units) base ≡ last + 1
next-of units base last soc frac from some is low high =
    let a : (last + 1) * base ≡ last * base + base = one-more-times last base in
    let b : (2 * last + 1) * base ≡ 2 * (last * base) + base = odd-times last base in
    let c : frac * (2 * units) ≡ 2 * (frac * units) = twice frac units in
    let one : soc * units + nearest (frac * units) base ≡ nearest (soc * units * base + frac * units) base = sym (nearest-shift (soc * units) (frac * units) base some) in
    one ∙ nearest-is (last + 1) (soc * units * base + frac * units) base some (omega (arith, a, b, c, is, low)) (omega (arith, a, b, c, is, high))

instant-is : (r soc frac base : ℕ) → instant_of (pos r) soc frac base ≡ soc * r + nearest (frac * r) base
instant-is r soc frac base = grind (arith, nat_tests)

instant-next : (rate : ℤ) (base last soc frac from : ℕ) → 0 < base → pos 0 <ℤ rate → from + 2 * (soc * unsigned_abs rate * base) ≡ (2 * last + 1) * base
    → from ≤ frac * (2 * unsigned_abs rate) → frac * (2 * unsigned_abs rate) < from + 2 * base → instant_of rate soc frac base ≡ last + 1
instant-next (pos r) base last soc frac from some above is low high = instant-is r soc frac base ∙ next-of r base last soc frac from some is low high
instant-next (negsuc r) base last soc frac from some above is low high = absurd (omega (arith, ints, above))

-- where the stamps begin that are of the instant k behind the first one of a SOC
pub begin_at : (k start base : ℕ) → (2 * k + 1) * base + 2 * (start * base) ≡ (2 * (k + start) + 1) * base
begin_at k start base = omega (arith, odd-times k base, odd-times (k + start) base, add-mul k start base)

-- ---- a stamp of it

among : (n : NextStamps) (t : FrameTime) → is_among n t ≡ true → (t.soc ≡ n.soc) × ((n.from ≤ t.frac * n.units) × (t.frac * n.units < n.from + n.width))
among n t h = grind (arith, nat_tests)

are-next : (rate : ℤ) (base : ℕ) (s : Span) (n : NextStamps) (t : FrameTime) → AreNextIfAny rate base s n → is_among n t ≡ true → AreNext rate base s n
are-next rate base s n t any h = any (omega (arith, among n t h))

pub next_instant : (rate : ℤ) (base : ℕ) (s : Span) (n : NextStamps) (t : FrameTime) → 0 < base → AreNextIfAny rate base s n → is_among n t ≡ true
    → instant_of rate t.soc t.frac base ≡ s.last + 1
next_instant rate base s n t some any h =
    let a : AreNext rate base s n = are-next rate base s n t any h in
    let m : (t.soc ≡ n.soc) × ((n.from ≤ t.frac * n.units) × (t.frac * n.units < n.from + n.width)) = among n t h in
    let low : n.from ≤ t.frac * (2 * unsigned_abs rate) = rw (a.units) at m.1.0 in
    let high : t.frac * (2 * unsigned_abs rate) < n.from + 2 * base = rw (a.units, a.width) at m.1.1 in
    let is : n.from + 2 * (t.soc * unsigned_abs rate * base) ≡ (2 * s.last + 1) * base = rw (m.0) a.from in
    instant-next rate base s.last t.soc t.frac n.from some a.above is low high

pub next_place : (rate : ℤ) (base : ℕ) (s : Span) (n : NextStamps) (t : FrameTime) → AreNextIfAny rate base s n → is_among n t ≡ true
    → place_of s rate (s.last + 1) ≡ After 1
next_place rate base s n t any h =
    let a : AreNext rate base s n = are-next rate base s n t any h in
    let jump : 0 < s.jump = a.jump in
    let steps : s.last + 1 - s.last ≡ 1 = omega arith in
    rw (a.same) (grind (arith, nat_tests))

pub from_fits : (rate : ℤ) (base : ℕ) (s : Span) (n : NextStamps) (t : FrameTime) → unsigned_abs rate < 2 ^ 16 → base < 2 ^ 32 → t.frac < 2 ^ 32
    → AreNextIfAny rate base s n → is_among n t ≡ true → n.from + n.width < 2 ^ 64
from_fits rate base s n t small narrow short any h =
    let a : AreNext rate base s n = are-next rate base s n t any h in
    let m : (t.soc ≡ n.soc) × ((n.from ≤ t.frac * n.units) × (t.frac * n.units < n.from + n.width)) = among n t h in
    let most : t.frac * n.units ≤ (2 ^ 32 - 1) * 2 ^ 17 = mul-le t.frac n.units (2 ^ 32 - 1) (2 ^ 17) (omega (arith, short)) (omega (arith, small, a.units)) in
    omega (arith, most, m.1.0, a.width, narrow)

instant-below : (r base soc frac : ℕ) → r < 2 ^ 16 → soc < 2 ^ 32 → frac < 2 ^ 32 → soc * r + nearest (frac * r) base < 2 ^ 64 - 1
instant-below r base soc frac a b c =
    let p : soc * r ≤ (2 ^ 32 - 1) * 2 ^ 16 = mul-le soc r (2 ^ 32 - 1) (2 ^ 16) (omega (arith, b)) (omega (arith, a)) in
    let q : frac * r ≤ (2 ^ 32 - 1) * 2 ^ 16 = mul-le frac r (2 ^ 32 - 1) (2 ^ 16) (omega (arith, c)) (omega (arith, a)) in
    let d : frac * r / base ≤ frac * r = div-le_self (frac * r) base in
    grind (arith, nat_tests)

next-below : (rate : ℤ) (base soc frac last : ℕ) → pos 0 <ℤ rate → unsigned_abs rate < 2 ^ 16 → soc < 2 ^ 32 → frac < 2 ^ 32 → instant_of rate soc frac base ≡ last + 1 → last + 1 < 2 ^ 64
next-below (pos r) base soc frac last above small a b is =
    let e : soc * r + nearest (frac * r) base ≡ last + 1 = sym (instant-is r soc frac base) ∙ is in
    omega (arith, instant-below r base soc frac small a b, e)
next-below (negsuc r) base soc frac last above small a b is = absurd (omega (arith, ints, above))

pub last_fits : (rate : ℤ) (base : ℕ) (s : Span) (n : NextStamps) (t : FrameTime) → 0 < base → unsigned_abs rate < 2 ^ 16 → t.soc < 2 ^ 32 → t.frac < 2 ^ 32
    → AreNextIfAny rate base s n → is_among n t ≡ true → s.last + 1 < 2 ^ 64
last_fits rate base s n t some small long short any h =
    let a : AreNext rate base s n = are-next rate base s n t any h in
    next-below rate base t.soc t.frac s.last a.above small long short (next_instant rate base s n t some any h)

-- the ones of the instant behind that
pub next_again : (rate : ℤ) (base came : ℕ) (s : Span) (n : NextStamps) (t : FrameTime) → AreNextIfAny rate base s n → is_among n t ≡ true
    → AreNextIfAny rate base (record s { last = s.last + 1; came = came }) (record n { from = n.from + n.width })
next_again rate base came s n t any h wide =
    let a : AreNext rate base s n = are-next rate base s n t any h in
    let f : n.from + 2 * (n.soc * unsigned_abs rate * base) ≡ (2 * s.last + 1) * base = a.from in
    let b : (2 * s.last + 1) * base ≡ 2 * (s.last * base) + base = odd-times s.last base in
    let d : (2 * (s.last + 1) + 1) * base ≡ 2 * ((s.last + 1) * base) + base = odd-times (s.last + 1) base in
    let e : (s.last + 1) * base ≡ s.last * base + base = one-more-times s.last base in
    record { same = a.same; above = a.above; jump = a.jump; units = a.units; width = a.width; from = omega (arith, f, b, d, e, a.width) }

-- ---- the spans

pub next_place_in : (s : SpanState) (n : NextStamps) (t : FrameTime) → 0 < s.base → AreNextIfAny s.rate s.base s.span n → is_among n t ≡ true → place_in s t ≡ After 1
unfolding instant_in
next_place_in s n t some any h = rw (next_instant s.rate s.base s.span n t some any h) (next_place s.rate s.base s.span n t any h)

next-in : (s : SpanState) (n : NextStamps) (t : FrameTime) → 0 < s.base → AreNextIfAny s.rate s.base s.span n → is_among n t ≡ true → instant_in s t ≡ s.span.last + 1
unfolding instant_in
next-in s n t some any h = next_instant s.rate s.base s.span n t some any h

pub next_taken : (s : SpanState) (n : NextStamps) (t : FrameTime) → 0 < s.base → AreNextIfAny s.rate s.base s.span n → is_among n t ≡ true
    → record s { span = record s.span { last = s.span.last + 1; came = bit_or (moved s.span.came 1) 1 } } ≡ taken s t
next_taken s n t some any h =
    rw (next_place_in s n t some any h, next-in s n t some any h) refl
