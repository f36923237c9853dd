-- What is spelled as a command is read as it, and what is read is spelled so.
use Rattle.std.proofs.Common.{◌≡◌, ℕ, zero, suc, ◌+◌, ◌-◌, ◌*◌, ◌/◌, ◌%◌, ◌^◌, ◌<◌, ◌≤◌, List, [], ◌∷◌, ◌++◌, length, take, drop, get_or, Result, Ok, Err, refl, sym, ap, ap₂, ◌∙◌, arith, length-append, IfOk, inl, inr, false, nat_lt, ◌==◌, ◌&&◌, not, if◌then◌else◌, drop-cons}
use Rattle.std.proofs.lemmas.Bool.{cond_both, eqb-true, not-false, cases_lt, ltb-false}
use Rattle.std.proofs.lemmas.Bool.Decides.{nat_tests}
use Rattle.std.specs.Int.{w16, to_be_bytes}
use Rattle.pg_wire.specs.Check.{chk}
use Rattle.pg_wire.specs.Head.{IsFrame, HeadFits, front_of, frame_of, head_of, body_of, two_at, IsSpelled}
use Rattle.pg_wire.specs.declared.refusal.Refusal.{Refusal}
use Rattle.pg_wire.specs.declared.refusal.Refusal.TheVariants.{WrongType, BadLength}
use Rattle.pg_wire.proofs.Spelled.{frame-spelled, spells-back, two_bytes}
use Rattle.pg_command.specs.declared.command.Command.{Command}
use Rattle.pg_command.specs.Spelling.{SpellsCommand, heading_to, written}
use Rattle.pg_command.specs.Reading.{command_of}

abbrev made : ℕ → ℕ → Result Command Refusal
made stream word = Ok (record { stream = stream; word = word })

-- ---- what is spelled is read

-- `command_of`, as a relation that antt can look through
record Reads (bytes : List ℕ) (c : Command) : Type 0 where
  is : command_of bytes ≡ Ok c

-- a command by its bytes
read_at : (a k s t i j n o p q e f g h u v : ℕ) (tail : List ℕ) (c : Command) → k / 16 ≡ 4 → 256 * i + j ≡ c.stream → 256 * u + v ≡ c.word
    → 2 ≤ length tail → (2 < length tail → c.word ≡ 8)
    → Reads (a ∷ k ∷ s ∷ t ∷ i ∷ j ∷ n ∷ o ∷ p ∷ q ∷ e ∷ f ∷ g ∷ h ∷ u ∷ v ∷ tail) c
read_at a k s t i j n o p q e f g h u v tail c kind stream word sized extended =
    let is : made (256 * i + j) (256 * u + v) ≡ made c.stream c.word = ap₂ made stream word in
    let len : 18 ≤ length (a ∷ k ∷ s ∷ t ∷ i ∷ j ∷ n ∷ o ∷ p ∷ q ∷ e ∷ f ∷ g ∷ h ∷ u ∷ v ∷ tail) = omega arith in
    let long : 18 < length (a ∷ k ∷ s ∷ t ∷ i ∷ j ∷ n ∷ o ∷ p ∷ q ∷ e ∷ f ∷ g ∷ h ∷ u ∷ v ∷ tail) → 256 * u + v ≡ 8 = λ longer. word ∙ extended (omega arith) in
    record { is = go (length (a ∷ k ∷ s ∷ t ∷ i ∷ j ∷ n ∷ o ∷ p ∷ q ∷ e ∷ f ∷ g ∷ h ∷ u ∷ v ∷ tail)) (made (256 * i + j) (256 * u + v)) len long ∙ is }
  where
    go : (len : ℕ) (x : Result Command Refusal) → 18 ≤ len → (18 < len → 256 * u + v ≡ 8)
        → (if not (k / 16 == 4) then Err WrongType else
        if nat_lt len 18 then Err BadLength else
        if nat_lt 18 len && not (256 * u + v == 8) then Err BadLength else x) ≡ x
    go len x sized long = grind (arith, nat_tests)

pub read-spelled : (bytes : List ℕ) (c : Command) → SpellsCommand bytes c → command_of bytes ≡ Ok c
read-spelled bytes c s =
    let body = to_be_bytes w16 c.word ++ s.more in
    let end = to_be_bytes w16 (chk (front_of s.head body)) in
    let four : s.head.kind ≡ 4 = s.kind in
    let kind : (16 * s.head.kind + s.head.version) / 16 ≡ 4 = elim s.fits.version [ inl one ↦ omega arith | inr two ↦ omega arith ] in
    let id : s.head.id < 2 ^ 16 = s.fits.id in
    let word : c.word < 2 ^ 16 = s.word in
    let number : 256 * (s.head.id / 256 % 256) + s.head.id % 256 ≡ s.head.id = omega arith in
    let code : 256 * (c.word / 256 % 256) + c.word % 256 ≡ c.word = omega arith in
    let behind : length (s.more ++ end) ≡ length s.more + 2 = length-append s.more end in
    let reads : Reads (frame_of s.head body) c =
    read_at _ _ _ _ _ _ _ _ _ _ _ _ _ _ _ _ (s.more ++ end) c kind (number ∙ s.stream) code (omega arith)
    (λ longer. s.extended (λ none. let nothing : length s.more ≡ 0 = ap length none in omega arith)) in
    ap command_of s.whole ∙ reads.is

abbrev answer : Command → Result Command Refusal
answer c = Ok c

pub one-command : (bytes : List ℕ) (c d : Command) → SpellsCommand bytes c → SpellsCommand bytes d → c ≡ d
one-command bytes c d first second =
    let same : answer c ≡ answer d = sym (read-spelled bytes c first) ∙ read-spelled bytes d second in
    cc

-- ---- what is read is spelled

-- the word, and what stands behind it
body-parts : (bytes : List ℕ) → 18 ≤ length bytes
    → body_of bytes ≡ get_or bytes 14 0 ∷ get_or bytes 15 0 ∷ take (length bytes - 18) (drop 16 bytes)
body-parts bytes sized =
    let count : length bytes - 16 ≡ suc (suc (length bytes - 18)) = omega arith in
    let first : 14 < length bytes = omega arith in
    let second : 15 < length bytes = omega arith in
    ap₂ (λ n l. take n l) count (drop-cons bytes 14 0 first ∙ ap (λ l. get_or bytes 14 0 ∷ l) (drop-cons bytes 15 0 second))

spelled_of : (bytes : List ℕ) → 18 ≤ length bytes → IsFrame bytes → ((i : ℕ) → get_or bytes i 0 < 256) → get_or bytes 1 0 / 16 ≡ 4
    → (18 < length bytes → two_at bytes 14 ≡ 8) → SpellsCommand bytes (record { stream = two_at bytes 4; word = two_at bytes 14 })
spelled_of bytes sized frame range kind extended =
    let spelled : IsSpelled bytes = frame-spelled bytes frame range in
    let more = take (length bytes - 18) (drop 16 bytes) in
    let high : get_or bytes 14 0 < 256 = range 14 in
    let low : get_or bytes 15 0 < 256 = range 15 in
    let body : body_of bytes ≡ to_be_bytes w16 (two_at bytes 14) ++ more =
    body-parts bytes sized ∙ ap (λ l. l ++ more) (sym (two_bytes (get_or bytes 14 0) (get_or bytes 15 0) high low)) in
    record {
      head = head_of bytes;
      fits = spelled.fits;
      kind = kind;
      stream = refl;
      word = omega arith;
      more = more;
      extended = λ some. elim (cases_lt 18 (length bytes)) [ inl longer ↦ extended longer | inr short ↦ absurd (some (nothing (omega arith))) ];
      whole = spelled.whole ∙ ap (frame_of (head_of bytes)) body;
    }
  where
    nothing : length bytes - 18 ≡ 0 → take (length bytes - 18) (drop 16 bytes) ≡ []
    nothing none = ap (λ n. take n (drop 16 bytes)) none

pub command-spelled : (bytes : List ℕ) → IsFrame bytes → ((i : ℕ) → get_or bytes i 0 < 256) → IfOk (command_of bytes) (SpellsCommand bytes)
command-spelled bytes frame range =
    let command : Result Command Refusal = made (two_at bytes 4) (two_at bytes 14) in
    cond_both (not (get_or bytes 1 0 / 16 == 4)) (Err WrongType) _ (λ r. IfOk r (SpellsCommand bytes)) (λ _. tt)
    (λ is_command. cond_both (nat_lt (length bytes) 18) (Err BadLength) _ (λ r. IfOk r (SpellsCommand bytes)) (λ _. tt)
    (λ long. cond_both (nat_lt 18 (length bytes) && not (two_at bytes 14 == 8)) (Err BadLength) command (λ r. IfOk r (SpellsCommand bytes)) (λ _. tt)
    (λ fits. spelled_of bytes (ltb-false _ _ long) frame range (eqb-true _ _ (not-false _ is_command))
    (λ longer. extended_is (length bytes) (two_at bytes 14) fits longer))))
  where
    extended_is : (n w : ℕ) → (nat_lt 18 n && not (w == 8)) ≡ false → 18 < n → w ≡ 8
    extended_is n w fits longer = grind (arith, nat_tests)

-- ---- what is written

heading_to-fits : (id soc : ℕ) → id < 2 ^ 16 → soc < 2 ^ 32 → HeadFits (heading_to id soc)
heading_to-fits id soc id_fits soc_fits = record { kind = omega arith; version = inr refl; id = id_fits; soc = soc_fits; quality = omega arith; frac = omega arith }

word_in_bytes : (word i : ℕ) → get_or (to_be_bytes w16 word) i 0 < 256
word_in_bytes word zero = omega arith
word_in_bytes word (suc zero) = omega arith
word_in_bytes word (suc (suc i)) = omega arith

pub written-frame : (id soc word : ℕ) → id < 2 ^ 16 → soc < 2 ^ 32 → word < 2 ^ 16 → IsFrame (written id soc word)
written-frame id soc word id_fits soc_fits word_fits =
    (spells-back (heading_to id soc) (to_be_bytes w16 word) (heading_to-fits id soc id_fits soc_fits) (omega arith) (word_in_bytes word)).frame

pub written-spelled : (id soc word : ℕ) → id < 2 ^ 16 → soc < 2 ^ 32 → word < 2 ^ 16 → SpellsCommand (written id soc word) (record { stream = id; word = word })
written-spelled id soc word id_fits soc_fits word_fits = record {
  head = heading_to id soc;
  fits = heading_to-fits id soc id_fits soc_fits;
  kind = refl;
  stream = refl;
  word = word_fits;
  more = [];
  extended = λ some. absurd (some refl);
  whole = refl;
}
