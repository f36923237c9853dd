-- Several bytes at a time: the tables, one for each number of bytes that come after, and what a chunk leaves.
use Rattle.std.proofs.Common.{◌≡◌, ℕ, zero, suc, ◌+◌, ◌*◌, ◌/◌, ◌%◌, ◌^◌, ◌<◌, ◌≤◌, List, [], ◌∷◌, ◌++◌, length, take, drop, sym, ap, ◌∙◌, arith, mul_assoc, ap₂, subst, lit<, get_or, Bool, true, false, refl, add-zero, zero-add, eqb, ◌&&◌, nat_lt, append_assoc, lit≤, mul-zero, mul-suc, add-one, mul-one}
use Rattle.std.specs.Int.Bits.{xor_zero_r, xor_assoc}
use Rattle.std.specs.Simd.{first_chunks}
use Rattle.std.proofs.lemmas.Nat.{pow-add, div-add-mod', mod_below, xor_comm}
use Rattle.std.proofs.Math.Seq.{take-add}
use Rattle.std.proofs.lemmas.List.{drop_more, drop-drop, drop_all, append-nil}
use Rattle.std.proofs.lemmas.Bool.{eqb-true, ltb-true, and_parts}
use Rattle.pg_wire.specs.Check.{◌⊕◌, times_generator, IsRemainder, dividend_from}
use Rattle.pg_wire.proofs.Remainders.{xor_shl, xor_cat, xor_pairs, times_generator-shl, IsRemainder-xor, IsRemainder-short, IsRemainder-more, IsRemainder-shl, dividend-more}

-- ---- the tables

-- whether each is the remainder of the one before it, eight places up
abbrev are_next : List ℕ → List ℕ → Bool
are_next [] [] = true
are_next [] (r ∷ rs) = false
are_next (p ∷ ps) [] = false
are_next (p ∷ ps) (r ∷ rs) = nat_lt r (2 ^ 16) && eqb (p * 2 ^ 8) (times_generator (p / 2 ^ 8 ⊕ p / 2 ^ 12) ⊕ r) && are_next ps rs

-- whether each table is what the one before it leaves eight places up
abbrev are_tables : List ℕ → List (List ℕ) → Bool
are_tables before [] = true
are_tables before (rs ∷ tables) = are_next before rs && are_tables rs tables

-- i and the numbers after it, eight places up
abbrev pub bytes_from : ℕ → ℕ → List ℕ
bytes_from zero i = []
bytes_from (suc n) i = i * 2 ^ 8 ∷ bytes_from n (suc i)

-- the remainders of 0 and the numbers after it, so many places up
abbrev pub AreRemainders : ℕ → ℕ → List ℕ → Type 0
AreRemainders n k rs = (t : ℕ) → t < n → IsRemainder (t * 2 ^ k) (get_or rs t 0)

at_next : (ps rs : List ℕ) → are_next ps rs ≡ true → (t : ℕ) → t < length ps → IsRemainder (get_or ps t 0 * 2 ^ 8) (get_or rs t 0)
at_next [] rs test t h = absurd (omega arith)
at_next (p ∷ ps) [] test t h = absurd (cc)
at_next (p ∷ ps) (r ∷ rs) test zero h =
    let parts = and_parts _ _ test in
    let front = and_parts _ _ parts.0 in
    record { below = ltb-true _ _ front.0; quotient = p / 2 ^ 8 ⊕ p / 2 ^ 12; whole = eqb-true _ _ front.1 }
at_next (p ∷ ps) (r ∷ rs) test (suc t) h = at_next ps rs (and_parts _ _ test).1 t (omega arith)

next-length : (ps rs : List ℕ) → are_next ps rs ≡ true → length rs ≡ length ps
next-length [] [] test = refl
next-length [] (r ∷ rs) test = absurd (cc)
next-length (p ∷ ps) [] test = absurd (cc)
next-length (p ∷ ps) (r ∷ rs) test = ap suc (next-length ps rs (and_parts _ _ test).1)

shifted : (t k : ℕ) → t * 2 ^ k * 2 ^ 8 ≡ t * 2 ^ (k + 8)
shifted t k = mul_assoc t (2 ^ k) (2 ^ 8) ∙ ap (λ x. t * x) (sym (pow-add 2 k 8))

AreRemainders-next : (k : ℕ) (ps rs : List ℕ) → are_next ps rs ≡ true → AreRemainders (length ps) k ps → AreRemainders (length rs) (k + 8) rs
AreRemainders-next k ps rs test all t h =
    let same : length rs ≡ length ps = next-length ps rs test in
    let within : t < length ps = omega arith in
    subst (λ x. IsRemainder x (get_or rs t 0)) (shifted t k)
    (IsRemainder-shl 8 (t * 2 ^ k) (get_or ps t 0) (get_or rs t 0) (all t within) (at_next ps rs test t within))

AreRemainders-tables : (k : ℕ) (before : List ℕ) (tables : List (List ℕ)) → are_tables before tables ≡ true → AreRemainders (length before) k before
    → (j : ℕ) → j < length tables → AreRemainders (length before) (k + 8 + 8 * j) (get_or tables j [])
AreRemainders-tables k before [] test all j h = absurd (omega arith)
AreRemainders-tables k before (rs ∷ tables) test all zero h =
    let parts = and_parts _ _ test in
    rw (add-zero, ← next-length before rs parts.0) (AreRemainders-next k before rs parts.0 all)
AreRemainders-tables k before (rs ∷ tables) test all (suc j) h =
    let parts : (are_next before rs ≡ true) × (are_tables rs tables ≡ true) = and_parts _ _ test in
    let same : k + 8 + 8 + 8 * j ≡ k + 8 + 8 * suc j = omega arith in
    let rest : AreRemainders (length rs) (k + 8 + 8 + 8 * j) (get_or tables j []) =
    AreRemainders-tables (k + 8) rs tables parts.1 (AreRemainders-next k before rs parts.0 all) j (omega arith) in
    subst (λ n. AreRemainders n (k + 8 + 8 * suc j) (get_or tables j [])) (next-length before rs parts.0)
    (subst (λ x. AreRemainders (length rs) x (get_or tables j [])) same rest)

-- each byte, eight places up, is short
short_bytes : (n i : ℕ) → i + n ≤ 256 → (t : ℕ) → t < n → IsRemainder ((i + t) * 2 ^ 8) (get_or (bytes_from n i) t 0)
short_bytes zero i within t h = absurd (omega arith)
short_bytes (suc n) i within zero h = rw add-zero (IsRemainder-short (i * 2 ^ 8) (omega arith))
short_bytes (suc n) i within (suc t) h =
    subst (λ x. IsRemainder (x * 2 ^ 8) (get_or (bytes_from n (suc i)) t 0)) (let e : suc i + t ≡ i + suc t = omega arith in e)
    (short_bytes n (suc i) (omega arith) t (omega arith))

-- the test of all tables
abbrev pub are_remainders : List (List ℕ) → Bool
are_remainders tables = are_tables (bytes_from 256 0) tables

pub remainder_at : (tables : List (List ℕ)) → are_remainders tables ≡ true → (j : ℕ) → j < length tables → (t : ℕ) → t < 256
    → IsRemainder (t * 2 ^ (16 + 8 * j)) (get_or (get_or tables j []) t 0)
remainder_at tables test j within t h =
    AreRemainders-tables 8 (bytes_from 256 0) tables test
    (λ t h. subst (λ x. IsRemainder (x * 2 ^ 8) (get_or (bytes_from 256 0) t 0)) (zero-add t) (short_bytes 256 0 (lit≤ tt) t h))
    j within t h

-- ---- a chunk

-- the bytes sixteen places up, the first highest
abbrev pub lifted : List ℕ → ℕ
lifted [] = 0
lifted (b ∷ bs) = b * 2 ^ (16 + 8 * length bs) ⊕ lifted bs

pub IsRemainder-lifted : (b : ℕ) (bs : List ℕ) (r s : ℕ) → IsRemainder (b * 2 ^ (16 + 8 * length bs)) r → IsRemainder (lifted bs) s → IsRemainder (lifted (b ∷ bs)) (r ⊕ s)
IsRemainder-lifted b bs r s first rest = IsRemainder-xor (b * 2 ^ (16 + 8 * length bs)) (lifted bs) r s first rest

pub IsRemainder-none : IsRemainder (lifted []) 0
IsRemainder-none = IsRemainder-short 0 (lit< tt)

-- more bytes
pub dividend-append : (start : ℕ) (bs chunk : List ℕ) → ((i : ℕ) → get_or chunk i 0 < 256)
    → dividend_from start (bs ++ chunk) ≡ dividend_from start bs * 2 ^ (8 * length chunk) ⊕ lifted chunk
dividend-append start bs [] bytes = rw (append-nil, mul-one, xor_zero_r) refl
dividend-append start bs (b ∷ chunk) bytes =
    let k = 8 * length chunk in
    let again : dividend_from start (bs ++ b ∷ chunk) ≡ dividend_from start ((bs ++ b ∷ []) ++ chunk) = ap (dividend_from start) (sym (append_assoc bs (b ∷ []) chunk)) in
    let up : (a : ℕ) (i : ℕ) → a * 2 ^ i * 2 ^ k ≡ a * 2 ^ (i + k) = λ a i. mul_assoc a (2 ^ i) (2 ^ k) ∙ ap (λ x. a * x) (sym (pow-add 2 i k)) in
    let places : 8 + k ≡ 8 * suc (length chunk) = omega arith in
    again ∙ dividend-append start (bs ++ b ∷ []) chunk (λ i. bytes (suc i))
    ∙ ap (λ x. x * 2 ^ k ⊕ lifted chunk) (dividend-more start bs b (bytes 0))
    ∙ ap (λ x. x ⊕ lifted chunk) (xor_shl (dividend_from start bs * 2 ^ 8) (b * 2 ^ 16) k ∙ ap₂ (λ x y. x ⊕ y) (up (dividend_from start bs) 8 ∙ ap (λ x. dividend_from start bs * 2 ^ x) places) (up b 16))
    ∙ xor_assoc (dividend_from start bs * 2 ^ (8 * suc (length chunk))) (b * 2 ^ (16 + k)) (lifted chunk)

-- the check so far goes into the first two bytes
fold_in : (crc b d : ℕ) (bs : List ℕ) → crc * 2 ^ (8 * length (b ∷ d ∷ bs)) ⊕ lifted (b ∷ d ∷ bs) ≡ lifted ((crc / 2 ^ 8 ⊕ b) ∷ (crc % 2 ^ 8 ⊕ d) ∷ bs)
fold_in crc b d bs =
    let k = 16 + 8 * length bs in
    let i = 16 + 8 * suc (length bs) in
    let high = crc / 2 ^ 8 in
    let low = crc % 2 ^ 8 in
    let parts : crc ≡ high * 2 ^ 8 ⊕ low = sym (div-add-mod' crc (2 ^ 8)) ∙ xor_cat high 8 low (mod_below crc (2 ^ 8) (lit< tt)) in
    let places : 8 * suc (suc (length bs)) ≡ k = omega arith in
    let more : 8 + k ≡ i = omega arith in
    let up : high * 2 ^ 8 * 2 ^ k ≡ high * 2 ^ i = mul_assoc high (2 ^ 8) (2 ^ k) ∙ ap (λ x. high * x) (sym (pow-add 2 8 k)) ∙ ap (λ x. high * 2 ^ x) more in
    let split : crc * 2 ^ (8 * suc (suc (length bs))) ≡ high * 2 ^ i ⊕ low * 2 ^ k =
    ap (λ x. crc * 2 ^ x) places ∙ ap (λ x. x * 2 ^ k) parts ∙ xor_shl (high * 2 ^ 8) low k ∙ ap (λ x. x ⊕ low * 2 ^ k) up in
    ap (λ x. x ⊕ (b * 2 ^ i ⊕ (d * 2 ^ k ⊕ lifted bs))) split
    ∙ xor_pairs (high * 2 ^ i) (low * 2 ^ k) (b * 2 ^ i) (d * 2 ^ k ⊕ lifted bs)
    ∙ ap₂ (λ x y. x ⊕ y) (sym (xor_shl high b i)) (sym (xor_assoc (low * 2 ^ k) (d * 2 ^ k) (lifted bs)) ∙ ap (λ x. x ⊕ lifted bs) (sym (xor_shl low d k)))

-- what a chunk of two bytes and more leaves
pub IsRemainder-chunk : (start : ℕ) (bs : List ℕ) (crc b d : ℕ) (chunk : List ℕ) (r : ℕ) → ((i : ℕ) → get_or (b ∷ d ∷ chunk) i 0 < 256)
    → IsRemainder (dividend_from start bs) crc
    → IsRemainder (lifted ((crc / 2 ^ 8 ⊕ b) ∷ (crc % 2 ^ 8 ⊕ d) ∷ chunk)) r → IsRemainder (dividend_from start (bs ++ b ∷ d ∷ chunk)) r
IsRemainder-chunk start bs crc b d chunk r bytes old new =
    let k = 8 * length (b ∷ d ∷ chunk) in
    let all = lifted (b ∷ d ∷ chunk) in
    let up : dividend_from start bs * 2 ^ k ≡ times_generator (old.quotient * 2 ^ k) ⊕ crc * 2 ^ k =
    ap (λ x. x * 2 ^ k) old.whole ∙ xor_shl (times_generator old.quotient) crc k
    ∙ ap (λ x. x ⊕ crc * 2 ^ k) (sym (times_generator-shl old.quotient k)) in
    let is : dividend_from start (bs ++ b ∷ d ∷ chunk) ≡ times_generator (old.quotient * 2 ^ k) ⊕ (crc * 2 ^ k ⊕ all) =
    dividend-append start bs (b ∷ d ∷ chunk) bytes ∙ ap (λ x. x ⊕ all) up ∙ xor_assoc (times_generator (old.quotient * 2 ^ k)) (crc * 2 ^ k) all in
    subst (λ x. IsRemainder x r) (sym is)
    (IsRemainder-more (old.quotient * 2 ^ k) _ _ (subst (λ x. IsRemainder x r) (sym (fold_in crc b d chunk)) new))

-- ---- lists of a known length, and cut into chunks

-- n items, from the i-th
abbrev pub listed : ℕ → ℕ → List ℕ → List ℕ
listed zero i xs = []
listed (suc n) i xs = get_or xs i 0 ∷ listed n (suc i) xs

drop_listed : (n i : ℕ) (xs : List ℕ) → length xs ≡ i + n → drop i xs ≡ listed n i xs
drop_listed zero i xs h = drop_all i xs (omega arith)
drop_listed (suc n) i xs h =
    let within : i < length xs = omega arith in
    drop_more xs i 0 within ∙ ap (λ n. get_or xs i 0 ∷ drop n xs) (add-one i) ∙ ap (λ ys. get_or xs i 0 ∷ ys) (drop_listed n (suc i) xs (omega arith))

pub is_listed : (n : ℕ) (xs : List ℕ) → length xs ≡ n → xs ≡ listed n 0 xs
is_listed n xs h = drop_listed n 0 xs (omega arith)

pub chunk_at : (n count : ℕ) (xs : List ℕ) (i : ℕ) → i < count → get_or (first_chunks n count xs) i [] ≡ take n (drop (n * i) xs)
chunk_at n zero xs i h = absurd (omega arith)
chunk_at n (suc count) xs zero h = rw mul-zero refl
chunk_at n (suc count) xs (suc i) h =
    chunk_at n count (drop n xs) i (omega arith) ∙ ap (λ ys. take n ys) (drop-drop (n * i) n xs)
    ∙ ap (λ x. take n (drop x xs)) (let e : n + n * i ≡ n * suc i = rw mul-suc (omega arith) in e)

pub take_chunk : (n count : ℕ) (xs : List ℕ) (i : ℕ) → i < count → take (n * (i + 1)) xs ≡ take (n * i) xs ++ get_or (first_chunks n count xs) i []
take_chunk n count xs i h =
    ap (λ x. take x xs) (let e : n * (i + 1) ≡ n * i + n = rw (add-one, mul-suc) (omega arith) in e) ∙ take-add (n * i) n xs
    ∙ ap (λ ys. take (n * i) xs ++ ys) (sym (chunk_at n count xs i h))

-- ---- eight bytes

eight_terms : (a b c d e f g h : ℕ) → a ⊕ (b ⊕ (c ⊕ (d ⊕ (e ⊕ (f ⊕ (g ⊕ (h ⊕ 0))))))) ≡ c ⊕ d ⊕ e ⊕ f ⊕ g ⊕ h ⊕ (a ⊕ b)
eight_terms a b c d e f g h =
    let later = c ⊕ d ⊕ e ⊕ f ⊕ g ⊕ h in
    let six : c ⊕ (d ⊕ (e ⊕ (f ⊕ (g ⊕ (h ⊕ 0))))) ≡ later = sym (simp (xor_assoc, xor_zero_r)) in
    ap (λ x. a ⊕ (b ⊕ x)) six ∙ sym (xor_assoc a b later) ∙ xor_comm (a ⊕ b) later

pub IsRemainder-eight : (start : ℕ) (bs xs : List ℕ) (crc a b c d e f g h : ℕ) → length xs ≡ 8 → ((i : ℕ) → get_or xs i 0 < 256) → IsRemainder (dividend_from start bs) crc
    → IsRemainder ((crc / 2 ^ 8 ⊕ get_or xs 0 0) * 2 ^ 72) a → IsRemainder ((crc % 2 ^ 8 ⊕ get_or xs 1 0) * 2 ^ 64) b
    → IsRemainder (get_or xs 2 0 * 2 ^ 56) c → IsRemainder (get_or xs 3 0 * 2 ^ 48) d → IsRemainder (get_or xs 4 0 * 2 ^ 40) e
    → IsRemainder (get_or xs 5 0 * 2 ^ 32) f → IsRemainder (get_or xs 6 0 * 2 ^ 24) g → IsRemainder (get_or xs 7 0 * 2 ^ 16) h
    → IsRemainder (dividend_from start (bs ++ xs)) (c ⊕ d ⊕ e ⊕ f ⊕ g ⊕ h ⊕ (a ⊕ b))
IsRemainder-eight start bs xs crc a b c d e f g h size bytes old ra rb rc rd re rf rg rh =
    let is : xs ≡ listed 8 0 xs = is_listed 8 xs size in
    let fits : (i : ℕ) → get_or (listed 8 0 xs) i 0 < 256 = λ i. subst (λ ys. get_or ys i 0 < 256) is (bytes i) in
    let new : IsRemainder (lifted ((crc / 2 ^ 8 ⊕ get_or xs 0 0) ∷ (crc % 2 ^ 8 ⊕ get_or xs 1 0) ∷ listed 6 2 xs)) (a ⊕ (b ⊕ (c ⊕ (d ⊕ (e ⊕ (f ⊕ (g ⊕ (h ⊕ 0)))))))) =
    IsRemainder-lifted _ ((crc % 2 ^ 8 ⊕ get_or xs 1 0) ∷ listed 6 2 xs) _ _ ra
    (IsRemainder-lifted _ (listed 6 2 xs) _ _ rb
    (IsRemainder-lifted _ (listed 5 3 xs) _ _ rc
    (IsRemainder-lifted _ (listed 4 4 xs) _ _ rd
    (IsRemainder-lifted _ (listed 3 5 xs) _ _ re
    (IsRemainder-lifted _ (listed 2 6 xs) _ _ rf
    (IsRemainder-lifted _ (listed 1 7 xs) _ _ rg
    (IsRemainder-lifted _ [] _ _ rh IsRemainder-none))))))) in
    subst (λ ys. IsRemainder (dividend_from start (bs ++ ys)) (c ⊕ d ⊕ e ⊕ f ⊕ g ⊕ h ⊕ (a ⊕ b))) (sym is)
    (subst (λ r. IsRemainder (dividend_from start (bs ++ listed 8 0 xs)) r) (eight_terms a b c d e f g h)
    (IsRemainder-chunk start bs crc (get_or xs 0 0) (get_or xs 1 0) (listed 6 2 xs) _ fits old new))

-- ---- six bytes

six_terms : (a b c d e f : ℕ) → a ⊕ (b ⊕ (c ⊕ (d ⊕ (e ⊕ (f ⊕ 0))))) ≡ c ⊕ d ⊕ e ⊕ f ⊕ (a ⊕ b)
six_terms a b c d e f =
    let later = c ⊕ d ⊕ e ⊕ f in
    let four : c ⊕ (d ⊕ (e ⊕ (f ⊕ 0))) ≡ later = sym (simp (xor_assoc, xor_zero_r)) in
    ap (λ x. a ⊕ (b ⊕ x)) four ∙ sym (xor_assoc a b later) ∙ xor_comm (a ⊕ b) later

pub IsRemainder-six : (start : ℕ) (bs xs : List ℕ) (crc a b c d e f : ℕ) → length xs ≡ 6 → ((i : ℕ) → get_or xs i 0 < 256) → IsRemainder (dividend_from start bs) crc
    → IsRemainder ((crc / 2 ^ 8 ⊕ get_or xs 0 0) * 2 ^ 56) a → IsRemainder ((crc % 2 ^ 8 ⊕ get_or xs 1 0) * 2 ^ 48) b
    → IsRemainder (get_or xs 2 0 * 2 ^ 40) c → IsRemainder (get_or xs 3 0 * 2 ^ 32) d
    → IsRemainder (get_or xs 4 0 * 2 ^ 24) e → IsRemainder (get_or xs 5 0 * 2 ^ 16) f
    → IsRemainder (dividend_from start (bs ++ xs)) (c ⊕ d ⊕ e ⊕ f ⊕ (a ⊕ b))
IsRemainder-six start bs xs crc a b c d e f size bytes old ra rb rc rd re rf =
    let is : xs ≡ listed 6 0 xs = is_listed 6 xs size in
    let fits : (i : ℕ) → get_or (listed 6 0 xs) i 0 < 256 = λ i. subst (λ ys. get_or ys i 0 < 256) is (bytes i) in
    let new : IsRemainder (lifted ((crc / 2 ^ 8 ⊕ get_or xs 0 0) ∷ (crc % 2 ^ 8 ⊕ get_or xs 1 0) ∷ listed 4 2 xs)) (a ⊕ (b ⊕ (c ⊕ (d ⊕ (e ⊕ (f ⊕ 0)))))) =
    IsRemainder-lifted _ ((crc % 2 ^ 8 ⊕ get_or xs 1 0) ∷ listed 4 2 xs) _ _ ra
    (IsRemainder-lifted _ (listed 4 2 xs) _ _ rb
    (IsRemainder-lifted _ (listed 3 3 xs) _ _ rc
    (IsRemainder-lifted _ (listed 2 4 xs) _ _ rd
    (IsRemainder-lifted _ (listed 1 5 xs) _ _ re
    (IsRemainder-lifted _ [] _ _ rf IsRemainder-none))))) in
    subst (λ ys. IsRemainder (dividend_from start (bs ++ ys)) (c ⊕ d ⊕ e ⊕ f ⊕ (a ⊕ b))) (sym is)
    (subst (λ r. IsRemainder (dividend_from start (bs ++ listed 6 0 xs)) r) (six_terms a b c d e f)
    (IsRemainder-chunk start bs crc (get_or xs 0 0) (get_or xs 1 0) (listed 4 2 xs) _ fits old new))
