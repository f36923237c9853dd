-- What a joined quality's two fields are.
use Rattle.std.proofs.Common.{◌≡◌, ℕ, ◌+◌, ◌*◌, ◌/◌, ◌%◌, ◌<◌, ◌≤◌, ◌^◌, List, [], ◌∷◌, fold, max, refl, ap, ap₂, ◌∙◌, lit<, arith}
use Rattle.std.proofs.lemmas.Nat.{or_lt, or_shifted, or_block, and_mask, and_le_r}
use Rattle.std.proofs.lemmas.Nat.Bits.{and_high}
use Rattle.std.specs.Int.Bits.{bit_or, bit_and}
use Rattle.pg_outcfg.specs.Quality.{leap_flags, quality_code, joined_flags, greatest_code, joined_quality}

-- a number of three bits, four places up
record IsFlags (flags : ℕ) : Type 0 where
  high : ℕ
  low : high < 2 ^ 3
  is : flags ≡ high * 2 ^ 4

leap-is : (quality : ℕ) → IsFlags (leap_flags quality)
leap-is quality = record { high = quality / 2 ^ 4 % 2 ^ 3; low = omega arith; is = and_high quality 3 4 }

or-is : (a b : ℕ) → IsFlags a → IsFlags b → IsFlags (bit_or a b)
or-is a b x y =
    let whole : bit_or (x.high * 2 ^ 4 + 0) (y.high * 2 ^ 4 + 0) ≡ bit_or x.high y.high * 2 ^ 4 + 0 = or_block 4 x.high y.high 0 0 (lit< tt) (lit< tt) in
    let first : a ≡ x.high * 2 ^ 4 + 0 = omega (arith, x.is) in
    let second : b ≡ y.high * 2 ^ 4 + 0 = omega (arith, y.is) in
    record {
      high = bit_or x.high y.high;
      low = or_lt 3 x.high y.high x.low y.low;
      is = ap₂ bit_or first second ∙ whole ∙ (let same : bit_or x.high y.high * 2 ^ 4 + 0 ≡ bit_or x.high y.high * 2 ^ 4 = omega arith in same);
    }

flags-are : (flags : ℕ) (qualities : List ℕ) → IsFlags flags → IsFlags (fold (λ f q. bit_or f (leap_flags q)) flags qualities)
flags-are flags [] is = is
flags-are flags (q ∷ qs) is = flags-are (bit_or flags (leap_flags q)) qs (or-is flags (leap_flags q) is (leap-is q))

code-small : (code : ℕ) (qualities : List ℕ) → code < 16 → fold (λ c q. max c (quality_code q)) code qualities < 16
code-small code [] low = low
code-small code (q ∷ qs) low =
    let one : bit_and q 15 ≤ 15 = and_le_r q 15 in
    code-small (max code (quality_code q)) qs (omega arith)

-- the two fields side by side
record IsJoined (qualities : List ℕ) : Type 0 where
  high : ℕ
  low : high < 8
  flags : joined_flags qualities ≡ high * 16
  code : greatest_code qualities < 16
  whole : joined_quality qualities ≡ high * 16 + greatest_code qualities

joined-is : (qualities : List ℕ) → IsJoined qualities
joined-is qualities =
    let all = flags-are 0 qualities (record { high = 0; low = lit< tt; is = refl }) in
    let small = code-small 0 qualities (lit< tt) in
    record {
      high = all.high;
      low = all.low;
      flags = all.is;
      code = small;
      whole = ap (λ f. bit_or f (greatest_code qualities)) all.is ∙ or_shifted all.high 4 (greatest_code qualities) small;
    }

pub joined-below : (qualities : List ℕ) → joined_quality qualities < 2 ^ 7
joined-below qualities = let j = joined-is qualities in omega (arith, j.whole, j.low, j.code)

pub joined-leap : (qualities : List ℕ) → leap_flags (joined_quality qualities) ≡ joined_flags qualities
joined-leap qualities =
    let j = joined-is qualities in
    let field : leap_flags (joined_quality qualities) ≡ (joined_quality qualities / 16 % 8) * 16 = and_high (joined_quality qualities) 3 4 in
    omega (arith, field, j.whole, j.low, j.code, j.flags)

pub joined-code : (qualities : List ℕ) → quality_code (joined_quality qualities) ≡ greatest_code qualities
joined-code qualities =
    let j = joined-is qualities in
    let field : quality_code (joined_quality qualities) ≡ joined_quality qualities % 16 = and_mask (joined_quality qualities) 4 in
    omega (arith, field, j.whole, j.code)
