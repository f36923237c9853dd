-- What is left of a check some bytes up, and of a block behind the bytes that a check is of.
use Rattle.std.proofs.Common.{◌≡◌, ℕ, zero, suc, ◌+◌, ◌-◌, ◌*◌, ◌/◌, ◌%◌, ◌^◌, ◌<◌, List, [], ◌∷◌, ◌++◌, length, get_or, sym, ap, ◌∙◌, subst, arith, lit<, mul_assoc, zero-add}
use Rattle.std.specs.Int.Bits.{xor_self, xor_zero_l, xor_assoc}
use Rattle.std.proofs.lemmas.Nat.{div-add-mod', mod_below, pow-add}
use Rattle.pg_wire.specs.Check.{◌⊕◌, IsRemainder, dividend_from, dividend}
use Rattle.std.proofs.Math.Nat.{div-div-eq-div-mul, zero-mul}
use Rattle.pg_wire.specs.CrcShift.{AreQuarters}
use Rattle.pg_wire.proofs.Remainders.{xor_shl, xor_cat, IsRemainder-xor, IsRemainder-short, IsRemainder-shl}
use Rattle.pg_wire.proofs.Slicing.{lifted, dividend-append}

shift_more : (n i k : ℕ) → n * 2 ^ i * 2 ^ k ≡ n * 2 ^ (i + k)
shift_more n i k = mul_assoc n (2 ^ i) (2 ^ k) ∙ ap (λ x. n * x) (sym (pow-add 2 i k))

-- a check over no bytes yet
pub from_zeros : (crc : ℕ) (n : ℕ) (r : ℕ) → IsRemainder (0 ⊕ crc * 2 ^ n) r → IsRemainder (crc * 2 ^ n) r
from_zeros crc n r is = subst (λ x. IsRemainder x r) (xor_zero_l (crc * 2 ^ n)) is

-- so many places up, and so many more
pub IsRemainder-up : (n i k crc r : ℕ) → IsRemainder (n * 2 ^ i) crc → IsRemainder (crc * 2 ^ k) r → IsRemainder (n * 2 ^ (i + k)) r
IsRemainder-up n i k crc r a b = subst (λ x. IsRemainder x r) (shift_more n i k) (IsRemainder-shl k (n * 2 ^ i) crc r a b)

-- two numbers whose bits lie apart
pub IsRemainder-sum : (a b k r s : ℕ) → IsRemainder (a * 2 ^ k) r → IsRemainder (b * 2 ^ k) s → IsRemainder ((a ⊕ b) * 2 ^ k) (r ⊕ s)
IsRemainder-sum a b k r s x y = subst (λ n. IsRemainder n (r ⊕ s)) (sym (xor_shl a b k)) (IsRemainder-xor (a * 2 ^ k) (b * 2 ^ k) r s x y)

-- a number by its high and its low four bits
in_two : (n : ℕ) → n ≡ n / 2 ^ 4 * 2 ^ 4 ⊕ n % 2 ^ 4
in_two n = sym (div-add-mod' n (2 ^ 4)) ∙ xor_cat (n / 2 ^ 4) 4 (n % 2 ^ 4) (mod_below n (2 ^ 4) (lit< tt))

-- its low four bits, and what is above them
pub IsRemainder-low : (n k m r s : ℕ) → m ≡ 4 + k → IsRemainder (n / 2 ^ 4 * 2 ^ m) r → IsRemainder (n % 2 ^ 4 * 2 ^ k) s → IsRemainder (n * 2 ^ k) (r ⊕ s)
IsRemainder-low n k m r s place high low =
    let up : IsRemainder (n / 2 ^ 4 * 2 ^ 4 * 2 ^ k) r =
    subst (λ x. IsRemainder x r) (ap (λ i. n / 2 ^ 4 * 2 ^ i) place ∙ sym (shift_more (n / 2 ^ 4) 4 k)) high in
    subst (λ x. IsRemainder (x * 2 ^ k) (r ⊕ s)) (sym (in_two n)) (IsRemainder-sum (n / 2 ^ 4 * 2 ^ 4) (n % 2 ^ 4) k r s up low)

-- a number that was put some bits up
pub IsRemainder-placed : (n one k m r : ℕ) → one ≡ 2 ^ k → IsRemainder (n * one * 2 ^ m) r → IsRemainder (n * 2 ^ (k + m)) r
IsRemainder-placed n one k m r is old = subst (λ x. IsRemainder x r) (ap (λ x. n * x * 2 ^ m) is ∙ shift_more n k m) old

-- bytes of which nothing stands before are what they are alone
alone-is : (bytes : List ℕ) → ((i : ℕ) → get_or bytes i 0 < 256) → dividend_from 0 bytes ≡ lifted bytes
alone-is bytes octets =
    dividend-append 0 [] bytes octets ∙ ap (λ x. x ⊕ lifted bytes) (zero-mul (2 ^ (8 * length bytes))) ∙ xor_zero_l (lifted bytes)

-- behind the bytes of a check: what is left of the check that far up, and of the block alone
pub IsRemainder-past : (start : ℕ) (before block : List ℕ) (crc r s : ℕ) → ((i : ℕ) → get_or block i 0 < 256) → IsRemainder (dividend_from start before) crc
    → IsRemainder (crc * 2 ^ (8 * length block)) r → IsRemainder (dividend_from 0 block) s → IsRemainder (dividend_from start (before ++ block)) (r ⊕ s)
IsRemainder-past start before block crc r s octets old up alone =
    subst (λ x. IsRemainder x (r ⊕ s)) (sym (dividend-append start before block octets))
    (IsRemainder-xor (dividend_from start before * 2 ^ (8 * length block)) (lifted block) r s
    (IsRemainder-shl (8 * length block) (dividend_from start before) crc r old up)
    (subst (λ x. IsRemainder x s) (alone-is block octets) alone))

-- the sixteen numbers of four bits
abbrev pub quarter_of : ℕ → ℕ → ℕ → ℕ → List ℕ
quarter_of a b c d =
    0 ∷ a ∷ b ∷ (a ⊕ b) ∷ c ∷ (a ⊕ c) ∷ (b ⊕ c) ∷ ((a ⊕ b) ⊕ c)
    ∷ d ∷ (a ⊕ d) ∷ (b ⊕ d) ∷ ((a ⊕ b) ⊕ d) ∷ (c ⊕ d) ∷ (a ⊕ (c ⊕ d)) ∷ (b ⊕ (c ⊕ d)) ∷ ((a ⊕ b) ⊕ (c ⊕ d)) ∷ []

pub quarter-is : (a b c d k : ℕ) → IsRemainder (1 * 2 ^ k) a → IsRemainder (2 * 2 ^ k) b → IsRemainder (4 * 2 ^ k) c → IsRemainder (8 * 2 ^ k) d
    → (t : ℕ) → t < 16 → IsRemainder (t * 2 ^ k) (get_or (quarter_of a b c d) t 0)
quarter-is a b c d k ra rb rc rd = cases where
  low : IsRemainder (3 * 2 ^ k) (a ⊕ b)
  low = IsRemainder-sum 1 2 k a b ra rb

  high : IsRemainder (12 * 2 ^ k) (c ⊕ d)
  high = IsRemainder-sum 4 8 k c d rc rd

  cases : (t : ℕ) → t < 16 → IsRemainder (t * 2 ^ k) (get_or (quarter_of a b c d) t 0)
  cases zero h = subst (λ x. IsRemainder x 0) (sym (zero-mul (2 ^ k))) (IsRemainder-short 0 (lit< tt))
  cases (suc zero) h = ra
  cases (suc (suc zero)) h = rb
  cases (suc (suc (suc zero))) h = low
  cases (suc (suc (suc (suc zero)))) h = rc
  cases (suc (suc (suc (suc (suc zero))))) h = IsRemainder-sum 1 4 k a c ra rc
  cases (suc (suc (suc (suc (suc (suc zero)))))) h = IsRemainder-sum 2 4 k b c rb rc
  cases (suc (suc (suc (suc (suc (suc (suc zero))))))) h = IsRemainder-sum 3 4 k (a ⊕ b) c low rc
  cases (suc (suc (suc (suc (suc (suc (suc (suc zero)))))))) h = rd
  cases (suc (suc (suc (suc (suc (suc (suc (suc (suc zero))))))))) h = IsRemainder-sum 1 8 k a d ra rd
  cases (suc (suc (suc (suc (suc (suc (suc (suc (suc (suc zero)))))))))) h = IsRemainder-sum 2 8 k b d rb rd
  cases (suc (suc (suc (suc (suc (suc (suc (suc (suc (suc (suc zero))))))))))) h = IsRemainder-sum 3 8 k (a ⊕ b) d low rd
  cases (suc (suc (suc (suc (suc (suc (suc (suc (suc (suc (suc (suc zero)))))))))))) h = high
  cases (suc (suc (suc (suc (suc (suc (suc (suc (suc (suc (suc (suc (suc zero))))))))))))) h = IsRemainder-sum 1 12 k a (c ⊕ d) ra high
  cases (suc (suc (suc (suc (suc (suc (suc (suc (suc (suc (suc (suc (suc (suc zero)))))))))))))) h = IsRemainder-sum 2 12 k b (c ⊕ d) rb high
  cases (suc (suc (suc (suc (suc (suc (suc (suc (suc (suc (suc (suc (suc (suc (suc zero))))))))))))))) h = IsRemainder-sum 3 12 k (a ⊕ b) (c ⊕ d) low high
  cases (suc (suc (suc (suc (suc (suc (suc (suc (suc (suc (suc (suc (suc (suc (suc (suc n)))))))))))))))) h = absurd (omega arith)

-- a check, by four bits of it at a time
pub quarters-are : (bytes : ℕ) (quarters : List (List ℕ)) (crc : ℕ) → AreQuarters bytes quarters → crc < 2 ^ 16
    → IsRemainder (crc * 2 ^ (8 * bytes))
    (get_or (get_or quarters 3 []) (crc / 2 ^ 12) 0 ⊕ get_or (get_or quarters 2 []) (crc / 2 ^ 8 % 16) 0
    ⊕ get_or (get_or quarters 1 []) (crc / 2 ^ 4 % 16) 0 ⊕ get_or (get_or quarters 0 []) (crc % 16) 0)
quarters-are bytes quarters crc are small =
    let n = 8 * bytes in
    let a = crc / 2 ^ 4 in
    let b = crc / 2 ^ 8 in
    let d = crc / 2 ^ 12 in
    let ab : a / 2 ^ 4 ≡ b = div-div-eq-div-mul crc (2 ^ 4) (2 ^ 4) in
    let bd : b / 2 ^ 4 ≡ d = div-div-eq-div-mul crc (2 ^ 8) (2 ^ 4) in
    let high : d < 16 = omega arith in
    let three : IsRemainder (d * 2 ^ (12 + n)) (get_or (get_or quarters 3 []) d 0) = are 3 (lit< tt) d high in
    let two : IsRemainder (b * 2 ^ (8 + n)) (get_or (get_or quarters 3 []) d 0 ⊕ get_or (get_or quarters 2 []) (b % 16) 0) =
    IsRemainder-low b (8 + n) (12 + n) _ _ (omega arith) (rw bd three) (are 2 (lit< tt) (b % 16) (mod_below b 16 (lit< tt))) in
    let one : IsRemainder (a * 2 ^ (4 + n)) (get_or (get_or quarters 3 []) d 0 ⊕ get_or (get_or quarters 2 []) (b % 16) 0 ⊕ get_or (get_or quarters 1 []) (a % 16) 0) =
    IsRemainder-low a (4 + n) (8 + n) _ _ (omega arith) (rw ab two) (are 1 (lit< tt) (a % 16) (mod_below a 16 (lit< tt))) in
    let low : IsRemainder (crc % 16 * 2 ^ n) (get_or (get_or quarters 0 []) (crc % 16) 0) =
    subst (λ k. IsRemainder (crc % 16 * 2 ^ k) (get_or (get_or quarters 0 []) (crc % 16) 0)) (zero-add n) (are 0 (lit< tt) (crc % 16) (mod_below crc 16 (lit< tt))) in
    IsRemainder-low crc n (4 + n) _ _ (omega arith) one low

pub AreQuarters-four : (bytes : ℕ) (a b c d : List ℕ)
    → ((t : ℕ) → t < 16 → IsRemainder (t * 2 ^ (0 + 8 * bytes)) (get_or a t 0)) → ((t : ℕ) → t < 16 → IsRemainder (t * 2 ^ (4 + 8 * bytes)) (get_or b t 0))
    → ((t : ℕ) → t < 16 → IsRemainder (t * 2 ^ (8 + 8 * bytes)) (get_or c t 0)) → ((t : ℕ) → t < 16 → IsRemainder (t * 2 ^ (12 + 8 * bytes)) (get_or d t 0))
    → AreQuarters bytes (a ∷ b ∷ c ∷ d ∷ [])
AreQuarters-four bytes a b c d ra rb rc rd zero h t small = ra t small
AreQuarters-four bytes a b c d ra rb rc rd (suc zero) h t small = rb t small
AreQuarters-four bytes a b c d ra rb rc rd (suc (suc zero)) h t small = rc t small
AreQuarters-four bytes a b c d ra rb rc rd (suc (suc (suc zero))) h t small = rd t small
AreQuarters-four bytes a b c d ra rb rc rd (suc (suc (suc (suc j)))) h t small = absurd (omega arith)

xor_out : (a b : ℕ) → a ⊕ (a ⊕ b) ≡ b
xor_out a b = sym (xor_assoc a a b) ∙ ap (λ x. x ⊕ b) (xor_self a) ∙ xor_zero_l b

-- what a block adds: the check past it, without what is left of the check before it that far up
pub IsRemainder-between : (front block : List ℕ) (crc r past : ℕ) → ((i : ℕ) → get_or block i 0 < 256) → IsRemainder (dividend front) crc
    → IsRemainder (crc * 2 ^ (8 * length block)) r → IsRemainder (dividend (front ++ block)) past → IsRemainder (dividend_from 0 block) (r ⊕ past)
IsRemainder-between front block crc r past octets before up after =
    let k = 8 * length block in
    let whole : IsRemainder (dividend front * 2 ^ k ⊕ lifted block) past =
    subst (λ x. IsRemainder x past) (dividend-append (2 ^ 16 - 1) front block octets) after in
    let both : IsRemainder (dividend front * 2 ^ k ⊕ (dividend front * 2 ^ k ⊕ lifted block)) (r ⊕ past) =
    IsRemainder-xor (dividend front * 2 ^ k) (dividend front * 2 ^ k ⊕ lifted block) r past (IsRemainder-shl k (dividend front) crc r before up) whole in
    subst (λ x. IsRemainder x (r ⊕ past)) (xor_out (dividend front * 2 ^ k) (lifted block) ∙ sym (alone-is block octets)) both
