-- Words, one behind another.
use Rattle.std.proofs.Common.{◌≡◌, ℕ, zero, suc, ◌+◌, ◌*◌, ◌<◌, List, [], ◌∷◌, ◌++◌, get_or, length, length-append, refl, sym, ap, ◌∙◌, append_assoc, add-one, arith}
use Rattle.std.specs.Int.{w16, to_be_bytes}
use Rattle.pg_config.specs.Parts.{Part, data_len}
use Rattle.pg_data.specs.Filler.{words, filler_of}

words-suc : (n value : ℕ) → words (suc n) value ≡ words n value ++ to_be_bytes w16 value
words-suc zero value = refl
words-suc (suc n) value =
    ap (λ x. to_be_bytes w16 value ++ x) (words-suc n value) ∙ sym (append_assoc (to_be_bytes w16 value) (words n value) (to_be_bytes w16 value))

-- one more word behind what stands there
pub words-more : (front was now : List ℕ) (n value : ℕ) → was ≡ front ++ words n value → now ≡ was ++ to_be_bytes w16 value → now ≡ front ++ words (n + 1) value
words-more front was now n value so_far more =
    more ∙ ap (λ x. x ++ to_be_bytes w16 value) so_far ∙ append_assoc front (words n value) (to_be_bytes w16 value)
    ∙ ap (λ x. front ++ x) (sym (words-suc n value) ∙ ap (λ k. words k value) (sym (add-one n)))

-- a word, byte by byte
pub word-pushed : (was between now bytes : List ℕ) (value : ℕ) → bytes ≡ to_be_bytes w16 value → between ≡ was ++ get_or bytes 0 0 ∷ []
    → now ≡ between ++ get_or bytes 1 0 ∷ [] → now ≡ was ++ to_be_bytes w16 value
word-pushed was between now bytes value is first second =
    second ∙ ap (λ x. x ++ get_or bytes 1 0 ∷ []) first ∙ append_assoc was (get_or bytes 0 0 ∷ []) (get_or bytes 1 0 ∷ [])
    ∙ ap (λ b. was ++ get_or b 0 0 ∷ get_or b 1 0 ∷ []) is

words-length : (n value : ℕ) → length (words n value) ≡ 2 * n
words-length zero value = refl
words-length (suc n) value = omega (arith, words-length n value)

pub filler-length : (p : Part) → length (filler_of p) ≡ data_len p
filler-length p =
    let a = words 1 0x8000 in
    let b = words (2 * p.phasors) 0x8000 in
    let d = words p.analogs 0x8000 in
    let e = words p.digitals 0 in
    omega (
      arith,
      words-length (2 * p.phasors) 0x8000,
      words-length p.analogs 0x8000,
      words-length p.digitals 0,
      length-append (a ++ b ++ a ++ a ++ d) e,
      length-append (a ++ b ++ a ++ a) d,
      length-append (a ++ b ++ a) a,
      length-append (a ++ b) a,
      length-append a b,
    )

abbrev pub InBytes : List ℕ → Type 0
InBytes bytes = (i : ℕ) → get_or bytes i 0 < 256

words-bytes : (n value : ℕ) → InBytes (words n value)
words-bytes zero value i = omega arith
words-bytes (suc n) value zero = omega arith
words-bytes (suc n) value (suc zero) = omega arith
words-bytes (suc n) value (suc (suc i)) = words-bytes n value i

append-bytes : (xs ys : List ℕ) → InBytes xs → InBytes ys → InBytes (xs ++ ys)
append-bytes [] ys p q i = q i
append-bytes (x ∷ xs) ys p q zero = p 0
append-bytes (x ∷ xs) ys p q (suc i) = append-bytes xs ys (λ j. p (suc j)) q i

pub filler-bytes : (p : Part) → InBytes (filler_of p)
filler-bytes p =
    let a = words 1 0x8000 in
    let b = words (2 * p.phasors) 0x8000 in
    let d = words p.analogs 0x8000 in
    let e = words p.digitals 0 in
    let one : InBytes a = words-bytes 1 0x8000 in
    let two : InBytes (a ++ b) = append-bytes a b one (words-bytes (2 * p.phasors) 0x8000) in
    let three : InBytes (a ++ b ++ a) = append-bytes (a ++ b) a two one in
    let four : InBytes (a ++ b ++ a ++ a) = append-bytes (a ++ b ++ a) a three one in
    append-bytes (a ++ b ++ a ++ a ++ d) e (append-bytes (a ++ b ++ a ++ a) d four (words-bytes p.analogs 0x8000)) (words-bytes p.digitals 0)
