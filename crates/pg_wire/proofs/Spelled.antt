-- Each kept frame is the spelling of its head and its body, and what they spell is that frame again.
use Rattle.std.proofs.Common.{◌≡◌, ◌⊎◌, ℕ, zero, suc, ◌+◌, ◌-◌, ◌*◌, ◌/◌, ◌%◌, ◌^◌, ◌<◌, ◌≤◌, List, [], ◌∷◌, ◌++◌, length, take, drop, get_or, Option, Some, None, refl, sym, ap, ap₂, ◌∙◌, arith, length-append, inl, inr, Bool, true, false, ◌||◌, nat_lt, ◌==◌, ◌&&◌, not, if◌then◌else◌, drop-cons, lit<}
use Rattle.std.proofs.lemmas.List.{take-append-drop, drop_all, length-take-le, get_or-append-add}
use Rattle.std.proofs.Math.Seq.{take-append-add, take-append_seam}
use Rattle.std.proofs.lemmas.Bool.{cases_eq, ne_eqb, cond-true}
use Rattle.std.proofs.lemmas.Bool.Decides.{nat_tests}
use Rattle.std.specs.Int.{w16, w32, to_be_bytes}
use Rattle.pg_wire.specs.declared.refusal.Refusal.{Refusal}
use Rattle.pg_wire.specs.declared.refusal.Refusal.TheVariants.{BadFirst, BadSecond, ShortSize, BadCheck, BadVersion}
use Rattle.pg_wire.specs.Check.{chk}
use Rattle.pg_wire.specs.Frame.{skip_of, break_of, check_at_end, version_of, size_of}
use Rattle.pg_wire.specs.Head.{IsFrame, Heading, HeadFits, front_of, frame_of, head_of, body_of, IsSpelled, SpellsBack}
use Rattle.pg_wire.specs.Heads.{start_of, ended}
use Rattle.pg_wire.proofs.Remainders.{chk-is}

pub two_bytes : (a b : ℕ) → a < 256 → b < 256 → to_be_bytes w16 (256 * a + b) ≡ a ∷ b ∷ []
two_bytes a b low high =
    let x : (256 * a + b) / 256 % 256 ≡ a = omega arith in
    let y : (256 * a + b) % 256 ≡ b = omega arith in
    ap₂ (λ p q. p ∷ q ∷ []) x y

pub four_bytes : (a b c d : ℕ) → a < 256 → b < 256 → c < 256 → d < 256
    → to_be_bytes w32 (16777216 * a + 65536 * b + 256 * c + d) ≡ a ∷ b ∷ c ∷ d ∷ []
four_bytes a b c d ha hb hc hd =
    let n = 16777216 * a + 65536 * b + 256 * c + d in
    let w : n / 16777216 % 256 ≡ a = omega arith in
    let x : n / 65536 % 256 ≡ b = omega arith in
    let y : n / 256 % 256 ≡ c = omega arith in
    let z : n % 256 ≡ d = omega arith in
    ap₂ (λ f g. f ++ g) (ap₂ (λ p q. p ∷ q ∷ []) w x) (ap₂ (λ p q. p ∷ q ∷ []) y z)

check_is_right : (x y : ℕ) (o : Option Refusal) → (if not (x == y) then Some BadCheck else o) ≡ None → x ≡ y
check_is_right x y o h = elim (cases_eq x y) [ inl e ↦ e | inr ne ↦ absurd (let t : not (x == y) ≡ true = (let f : (x == y) ≡ false = ne_eqb x y ne in ap not f) in let some : Some BadCheck ≡ None = sym (cond-true (not (x == y)) (Some BadCheck) o t) ∙ h in cc) ]

-- a frame ends with its check
pub frame-check : (frame : List ℕ) → IsFrame frame → check_at_end frame ≡ chk (take (length frame - 2) frame)
frame-check frame is = check_is_right _ _ _ is.1

pub take-bytes : (n : ℕ) (bytes : List ℕ) → ((i : ℕ) → get_or bytes i 0 < 256) → (i : ℕ) → get_or (take n bytes) i 0 < 256
take-bytes zero bytes range i = omega arith
take-bytes (suc n) [] range i = omega arith
take-bytes (suc n) (b ∷ bytes) range zero = range 0
take-bytes (suc n) (b ∷ bytes) range (suc i) = take-bytes n bytes (λ k. range (suc k)) i

-- the check behind a frame's other bytes
check_spelled : (l : List ℕ) → 2 ≤ length l → ((i : ℕ) → get_or l i 0 < 256) → skip_of l ≡ None
    → l ≡ take (length l - 2) l ++ to_be_bytes w16 (chk (take (length l - 2) l))
check_spelled l sized range kept =
    let first : length l - 2 < length l = omega arith in
    let second : suc (length l - 2) < length l = omega arith in
    let low : get_or l (length l - 2) 0 < 256 = range (length l - 2) in
    let high : get_or l (length l - 1) 0 < 256 = range (length l - 1) in
    let place : suc (length l - 2) ≡ length l - 1 = omega arith in
    let end : drop (length l - 2) l ≡ get_or l (length l - 2) 0 ∷ get_or l (length l - 1) 0 ∷ [] =
    drop-cons l (length l - 2) 0 first
    ∙ ap (λ x. get_or l (length l - 2) 0 ∷ x) (drop-cons l (suc (length l - 2)) 0 second
    ∙ ap₂ (λ x y. x ∷ y) (ap (λ n. get_or l n 0) place) (drop_all (suc (suc (length l - 2))) l (omega arith))) in
    let right : check_at_end l ≡ chk (take (length l - 2) l) = check_is_right _ _ _ kept in
    sym (take-append-drop (length l - 2) l)
    ∙ ap (λ x. take (length l - 2) l ++ x) (end ∙ sym (two_bytes _ _ low high) ∙ ap (to_be_bytes w16) right)

-- the bytes of a frame without a break
frame_bytes : (a k s t : ℕ) (rest : List ℕ) → break_of (a ∷ k ∷ s ∷ t ∷ rest) ≡ None → (a ≡ 170) × (k < 96)
frame_bytes a k s t rest h = grind (arith, nat_tests)

-- a kept frame has version 1 or 2
kept_version : (bytes : List ℕ) → skip_of bytes ≡ None → (version_of bytes ≡ 1) ⊎ (version_of bytes ≡ 2)
kept_version bytes h = go (check_at_end bytes == chk (take (length bytes - 2) bytes)) (version_of bytes) h where
  go : (b : Bool) (v : ℕ) → (if not b then Some BadCheck else if v == 1 || v == 2 then None else Some BadVersion) ≡ None → (v ≡ 1) ⊎ (v ≡ 2)
  go true v h = elim (cases_eq v 1) [
    | inl one ↦ inl one
    | inr not_one ↦ elim (cases_eq v 2) [
      | inl two ↦ inr two
      | inr not_two ↦ absurd (let none : (v == 1 || v == 2) ≡ false = (let a : (v == 1) ≡ false = ne_eqb v 1 not_one in let b : (v == 2) ≡ false = ne_eqb v 2 not_two in ap₂ (λ x y. x || y) a b) in
          let some : Some BadVersion ≡ None = sym (ap (λ b. if b then None else Some BadVersion) none) ∙ h in cc)
    ]
  ]
  go false v h = absurd (let some : Some BadCheck ≡ None = h in cc)

-- the parts of a frame of these bytes
spelled_at : (a k s t i j n o p q e f g h : ℕ) (rest : List ℕ) → 2 ≤ length rest → IsFrame (a ∷ k ∷ s ∷ t ∷ i ∷ j ∷ n ∷ o ∷ p ∷ q ∷ e ∷ f ∷ g ∷ h ∷ rest) → ((x : ℕ) → get_or (a ∷ k ∷ s ∷ t ∷ i ∷ j ∷ n ∷ o ∷ p ∷ q ∷ e ∷ f ∷ g ∷ h ∷ rest) x 0 < 256)
    → IsSpelled (a ∷ k ∷ s ∷ t ∷ i ∷ j ∷ n ∷ o ∷ p ∷ q ∷ e ∷ f ∷ g ∷ h ∷ rest)
spelled_at a k s t i j n o p q e f g h rest sized frame at =
    let body = take (length rest - 2) rest in
    let version : (k % 16 ≡ 1) ⊎ (k % 16 ≡ 2) = kept_version (a ∷ k ∷ s ∷ t ∷ i ∷ j ∷ n ∷ o ∷ p ∷ q ∷ e ∷ f ∷ g ∷ h ∷ rest) frame.1 in
    let k256 : k < 256 = at 1 in
    let s256 : s < 256 = at 2 in
    let t256 : t < 256 = at 3 in
    let i256 : i < 256 = at 4 in
    let j256 : j < 256 = at 5 in
    let n256 : n < 256 = at 6 in
    let o256 : o < 256 = at 7 in
    let p256 : p < 256 = at 8 in
    let q256 : q < 256 = at 9 in
    let e256 : e < 256 = at 10 in
    let f256 : f < 256 = at 11 in
    let g256 : g < 256 = at 12 in
    let h256 : h < 256 = at 13 in
    let first : a ≡ 170 = (frame_bytes a k s t (i ∷ j ∷ n ∷ o ∷ p ∷ q ∷ e ∷ f ∷ g ∷ h ∷ rest) frame.0.unbroken).0 in
    let second : k < 96 = (frame_bytes a k s t (i ∷ j ∷ n ∷ o ∷ p ∷ q ∷ e ∷ f ∷ g ∷ h ∷ rest) frame.0.unbroken).1 in
    let head : Heading = record { kind = k / 16; version = k % 16; id = 256 * i + j; soc = 16777216 * n + (65536 * o + (256 * p + q)); quality = e; frac = 65536 * f + (256 * g + h) } in
    let kv : 16 * (k / 16) + k % 16 ≡ k = omega arith in
    let count : length body ≡ length rest - 2 = length-take-le (length rest - 2) rest (omega arith) in
    let size : 16 + length body ≡ 256 * s + t = (let z : length (a ∷ k ∷ s ∷ t ∷ i ∷ j ∷ n ∷ o ∷ p ∷ q ∷ e ∷ f ∷ g ∷ h ∷ rest) ≡ 256 * s + t = frame.0.size in omega arith) in
    let time : 16777216 * n + (65536 * o + (256 * p + q)) ≡ 16777216 * n + 65536 * o + 256 * p + q = omega arith in
    let fracsec : e * 2 ^ 24 + (65536 * f + (256 * g + h)) ≡ 16777216 * e + 65536 * f + 256 * g + h = omega arith in
    let front : front_of head body ≡ a ∷ k ∷ s ∷ t ∷ i ∷ j ∷ n ∷ o ∷ p ∷ q ∷ e ∷ f ∷ g ∷ h ∷ body =
    ap₂ (λ x y. x ++ y)
    (ap₂ (λ x y. x ++ y)
    (ap₂ (λ x y. x ++ y)
    (ap₂ (λ x y. x ∷ y) (sym first) (ap₂ (λ x y. x ∷ y) kv (ap (to_be_bytes w16) size ∙ two_bytes s t s256 t256)))
    (two_bytes i j i256 j256))
    (ap (to_be_bytes w32) time ∙ four_bytes n o p q n256 o256 p256 q256))
    (ap₂ (λ x y. x ++ y) (ap (to_be_bytes w32) fracsec ∙ four_bytes e f g h e256 f256 g256 h256) (λ _. body)) in
    let parts : take (length (a ∷ k ∷ s ∷ t ∷ i ∷ j ∷ n ∷ o ∷ p ∷ q ∷ e ∷ f ∷ g ∷ h ∷ rest) - 2) (a ∷ k ∷ s ∷ t ∷ i ∷ j ∷ n ∷ o ∷ p ∷ q ∷ e ∷ f ∷ g ∷ h ∷ rest) ≡ a ∷ k ∷ s ∷ t ∷ i ∷ j ∷ n ∷ o ∷ p ∷ q ∷ e ∷ f ∷ g ∷ h ∷ body =
    ap (λ x. take x (a ∷ k ∷ s ∷ t ∷ i ∷ j ∷ n ∷ o ∷ p ∷ q ∷ e ∷ f ∷ g ∷ h ∷ rest)) (let len : length (a ∷ k ∷ s ∷ t ∷ i ∷ j ∷ n ∷ o ∷ p ∷ q ∷ e ∷ f ∷ g ∷ h ∷ rest) - 2 ≡ length (a ∷ k ∷ s ∷ t ∷ i ∷ j ∷ n ∷ o ∷ p ∷ q ∷ e ∷ f ∷ g ∷ h ∷ []) + (length rest - 2) = omega arith in len)
    ∙ take-append-add (a ∷ k ∷ s ∷ t ∷ i ∷ j ∷ n ∷ o ∷ p ∷ q ∷ e ∷ f ∷ g ∷ h ∷ []) rest (length rest - 2) in
    let whole : a ∷ k ∷ s ∷ t ∷ i ∷ j ∷ n ∷ o ∷ p ∷ q ∷ e ∷ f ∷ g ∷ h ∷ rest ≡ frame_of head body = check_spelled (a ∷ k ∷ s ∷ t ∷ i ∷ j ∷ n ∷ o ∷ p ∷ q ∷ e ∷ f ∷ g ∷ h ∷ rest) (omega arith) at frame.1 ∙ ap (λ z. z ++ to_be_bytes w16 (chk z)) (parts ∙ sym front) in
    let same_body : body_of (a ∷ k ∷ s ∷ t ∷ i ∷ j ∷ n ∷ o ∷ p ∷ q ∷ e ∷ f ∷ g ∷ h ∷ rest) ≡ body = ap (λ x. take x rest) (let len : length (a ∷ k ∷ s ∷ t ∷ i ∷ j ∷ n ∷ o ∷ p ∷ q ∷ e ∷ f ∷ g ∷ h ∷ rest) - 16 ≡ length rest - 2 = omega arith in len) in
    record {
      fits = record { kind = omega arith; version = version; id = omega arith; soc = omega arith; quality = e256; frac = omega arith };
      whole = whole ∙ ap (frame_of head) (sym same_body);
    }

-- a frame is long enough
pub frame_is_long : (bytes : List ℕ) → IsFrame bytes → 16 ≤ length bytes
frame_is_long bytes frame = at_least (length bytes) (get_or bytes 0 0) (get_or bytes 1 0) (size_of bytes) frame.0.unbroken frame.0.sized frame.0.size where
  at_least : (len first second size : ℕ) → (if nat_lt 0 len && not (first == 0xAA) then Some BadFirst else
      if nat_lt 1 len && not (nat_lt second 0x60) then Some BadSecond else
      if nat_lt 3 len && nat_lt size 16 then Some ShortSize else None) ≡ None → 4 ≤ len → len ≡ size → 16 ≤ len
  at_least len first second size h sized is = grind (arith, nat_tests)

pub frame-spelled : (bytes : List ℕ) → IsFrame bytes → ((i : ℕ) → get_or bytes i 0 < 256) → IsSpelled bytes
frame-spelled bytes frame range = go bytes (frame_is_long bytes frame) frame range where
  go : (bytes : List ℕ) → 16 ≤ length bytes → IsFrame bytes → ((i : ℕ) → get_or bytes i 0 < 256) → IsSpelled bytes
  go (a ∷ k ∷ s ∷ t ∷ i ∷ j ∷ n ∷ o ∷ p ∷ q ∷ e ∷ f ∷ g ∷ h ∷ rest) sized frame range = spelled_at a k s t i j n o p q e f g h rest (omega arith) frame range
  go bytes sized frame range = absurd (omega arith)

-- ---- the other way

abbrev head_with : ℕ → ℕ → ℕ → ℕ → ℕ → ℕ → Heading
head_with kind version id soc quality frac = record { kind = kind; version = version; id = id; soc = soc; quality = quality; frac = frac }

same_head : (g h : Heading) → g.kind ≡ h.kind → g.version ≡ h.version → g.id ≡ h.id → g.soc ≡ h.soc → g.quality ≡ h.quality → g.frac ≡ h.frac → g ≡ h
same_head g h kind version id soc quality frac =
    ap₂ (λ f x. f x) (ap₂ (λ f x. f x) (ap₂ (λ f x. f x) (ap₂ (λ f x. f x) (ap₂ head_with kind version) id) soc) quality) frac

-- what the bytes of a spelling are, each byte below 256
abbrev InBytes : List ℕ → Type 0
InBytes bytes = (i : ℕ) → get_or bytes i 0 < 256

cons-in_bytes : (b : ℕ) (bytes : List ℕ) → b < 256 → InBytes bytes → InBytes (b ∷ bytes)
cons-in_bytes b bytes low others zero = low
cons-in_bytes b bytes low others (suc i) = others i

last_byte : (n : ℕ) → n % 256 < 256
last_byte n = omega arith

two-in_bytes : (n : ℕ) (bytes : List ℕ) → InBytes bytes → InBytes (to_be_bytes w16 n ++ bytes)
two-in_bytes n bytes others = cons-in_bytes (n / 256 % 256) (n % 256 ∷ bytes) (last_byte (n / 256)) (cons-in_bytes (n % 256) bytes (last_byte n) others)

four-in_bytes : (n : ℕ) (bytes : List ℕ) → InBytes bytes → InBytes (to_be_bytes w32 n ++ bytes)
four-in_bytes n bytes others =
    cons-in_bytes (n / 16777216 % 256) (n / 65536 % 256 ∷ n / 256 % 256 ∷ n % 256 ∷ bytes) (last_byte (n / 16777216))
    (cons-in_bytes (n / 65536 % 256) (n / 256 % 256 ∷ n % 256 ∷ bytes) (last_byte (n / 65536)) (two-in_bytes n bytes others))

front-in_bytes : (h : Heading) (body : List ℕ) → HeadFits h → InBytes body → InBytes (front_of h body)
front-in_bytes h body fits range =
    let second : 16 * h.kind + h.version < 256 = elim fits.version [ inl one ↦ (let k : h.kind < 6 = fits.kind in omega arith) | inr two ↦ (let k : h.kind < 6 = fits.kind in omega arith) ] in
    let fraction = to_be_bytes w32 (h.quality * 2 ^ 24 + h.frac) ++ body in
    let time = to_be_bytes w32 h.soc ++ fraction in
    let id = to_be_bytes w16 h.id ++ time in
    let size = to_be_bytes w16 (16 + length body) ++ id in
    cons-in_bytes 0xAA ((16 * h.kind + h.version) ∷ size) (lit< tt) (cons-in_bytes (16 * h.kind + h.version) size second
    (two-in_bytes (16 + length body) id (two-in_bytes h.id time (four-in_bytes h.soc fraction (four-in_bytes (h.quality * 2 ^ 24 + h.frac) body range)))))

is_unbroken : (len first second size : ℕ) → first ≡ 170 → second < 96 → 16 ≤ size → (if nat_lt 0 len && not (first == 0xAA) then Some BadFirst else
    if nat_lt 1 len && not (nat_lt second 0x60) then Some BadSecond else
    if nat_lt 3 len && nat_lt size 16 then Some ShortSize else None) ≡ None
is_unbroken len first second size a b c = grind (arith, nat_tests)

is_kept : (x y v : ℕ) → x ≡ y → (v ≡ 1) ⊎ (v ≡ 2) → (if not (x == y) then Some BadCheck else if v == 1 || v == 2 then None else Some BadVersion) ≡ None
is_kept x y v same version = elim version [ inl one ↦ grind (arith, nat_tests) | inr two ↦ grind (arith, nat_tests) ]

pub spells-back : (h : Heading) (body : List ℕ) → HeadFits h → 16 + length body < 2 ^ 16 → InBytes body → SpellsBack h body
spells-back h body fits sized range =
    let front = front_of h body in
    let c = chk front in
    let end = to_be_bytes w16 c in
    let kind : h.kind < 6 = fits.kind in
    let id : h.id < 2 ^ 16 = fits.id in
    let soc : h.soc < 2 ^ 32 = fits.soc in
    let quality : h.quality < 2 ^ 8 = fits.quality in
    let frac : h.frac < 2 ^ 24 = fits.frac in
    let low : c < 2 ^ 16 = (chk-is front (front-in_bytes h body fits range)).below in
    let len : length (frame_of h body) ≡ 16 + length body = omega (arith, length-append body end) in
    let front_len : length front ≡ 14 + length body = omega arith in
    let size : size_of (frame_of h body) ≡ 16 + length body = omega arith in
    let second : 16 * h.kind + h.version < 96 = elim fits.version [ inl one ↦ omega arith | inr two ↦ omega arith ] in
    let version : (16 * h.kind + h.version) % 16 ≡ h.version = elim fits.version [ inl one ↦ omega arith | inr two ↦ omega arith ] in
    let kinds : (16 * h.kind + h.version) / 16 ≡ h.kind = elim fits.version [ inl one ↦ omega arith | inr two ↦ omega arith ] in
    let high_byte : get_or (frame_of h body) (length (frame_of h body) - 2) 0 ≡ c / 256 % 256 =
    ap (λ x. get_or (frame_of h body) x 0) (let at : length (frame_of h body) - 2 ≡ length front + 0 = omega arith in at) ∙ get_or-append-add front end 0 0 in
    let low_byte : get_or (frame_of h body) (length (frame_of h body) - 1) 0 ≡ c % 256 =
    ap (λ x. get_or (frame_of h body) x 0) (let at : length (frame_of h body) - 1 ≡ length front + 1 = omega arith in at) ∙ get_or-append-add front end 1 0 in
    let parts : take (length (frame_of h body) - 2) (frame_of h body) ≡ front =
    ap (λ x. take x (frame_of h body)) (let at : length (frame_of h body) - 2 ≡ length front = omega arith in at) ∙ take-append_seam front end in
    let right : check_at_end (frame_of h body) ≡ chk (take (length (frame_of h body) - 2) (frame_of h body)) =
    (let value : check_at_end (frame_of h body) ≡ c = omega arith in value) ∙ ap chk (sym parts) in
    record {
      frame = (
        record {
          unbroken = is_unbroken (length (frame_of h body)) 170 (16 * h.kind + h.version) (size_of (frame_of h body)) refl second (omega arith);
          sized = omega arith;
          size = omega arith;
        },
        is_kept _ _ _ right (elim fits.version [ inl one ↦ inl (version ∙ one) | inr two ↦ inr (version ∙ two) ]),
      );
      same_head = same_head (head_of (frame_of h body)) h kinds version (omega arith) (omega arith) (omega arith) (omega arith);
      same_body = ap (λ x. take x (body ++ end)) (let at : length (frame_of h body) - 16 ≡ length body = omega arith in at) ∙ take-append_seam body end;
    }

-- a frame that was started for this body and has it, ended
pub ended-start : (h : Heading) (body : List ℕ) → ended (start_of h (16 + length body) ++ body) ≡ frame_of h body
ended-start h body = refl
