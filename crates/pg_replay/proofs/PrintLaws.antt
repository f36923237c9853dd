-- What is printed of a queue and of commands, piece by piece.
use Rattle.std.proofs.Common.{◌≡◌, ℕ, zero, suc, ◌+◌, ◌≤◌, ◌<◌, List, [], ◌∷◌, ◌++◌, length, take, drop, min, get_or, Option, Some, None, codes, refl, sym, ap, ◌∙◌, arith}
use Rattle.std.specs.List.{flat_map, slice_get}
use Rattle.std.specs.Io.KnownBytes.{Appends}
use Rattle.std.proofs.Math.Seq.{take-suc}
use Rattle.std.proofs.lemmas.List.{append_assoc, append-nil, length-take, length-drop, take_min, drop_min}
use Rattle.std.proofs.lemmas.Grind.{flat_map-append}
use Rattle.std.proofs.lemmas.Option.{slice_get_within, get_or_from_slice_get}
use Rattle.pg_lines.specs.Printing.{hex_end}
use Rattle.pg_lines.proofs.PrintLaws.{appends_more}
use Rattle.pg_replay.specs.Printing.{send_line, send_from, send_lines}

pub flat_taken : {X : Type 0} (f : X → List ℕ) (l : List X) (n : ℕ) (x : X) → slice_get l n ≡ Some x → flat_map f (take (n + 1) l) ≡ flat_map f (take n l) ++ f x
flat_taken f l n x is =
    let on : n + 1 ≡ suc n = omega arith in
    ap (λ k. flat_map f (take k l)) on ∙ ap (flat_map f) (take-suc l n x (slice_get_within l n x is))
    ∙ flat_map-append f (take n l) (get_or l n x ∷ []) ∙ ap (λ y. flat_map f (take n l) ++ (f y ++ [])) (get_or_from_slice_get l n x x is)
    ∙ ap (λ t. flat_map f (take n l) ++ t) (append-nil (f x))

same_fuel : (n m : ℕ) (bytes : List ℕ) → length bytes ≤ n → length bytes ≤ m → send_from n bytes ≡ send_from m bytes
same_fuel zero zero bytes a b = refl
same_fuel zero (suc m) [] a b = refl
same_fuel (suc n) zero [] a b = refl
same_fuel (suc n) (suc m) [] a b = refl
same_fuel zero (suc m) (x ∷ xs) a b = absurd (omega arith)
same_fuel (suc n) zero (x ∷ xs) a b = absurd (omega arith)
same_fuel (suc n) (suc m) (x ∷ xs) a b =
    let len = length-drop 18 (x ∷ xs) in
    ap (λ t. send_line (take 18 (x ∷ xs)) ++ t) (same_fuel n m (drop 18 (x ∷ xs)) (omega (arith, len)) (omega (arith, len)))

send_next : (bytes : List ℕ) → 0 < length bytes → send_lines bytes ≡ send_line (take 18 bytes) ++ send_lines (drop 18 bytes)
send_next [] some = absurd (omega arith)
send_next (b ∷ bs) some =
    let len = length-drop 18 (b ∷ bs) in
    ap (λ t. send_line (take 18 (b ∷ bs)) ++ t) (same_fuel (length bs) (length (drop 18 (b ∷ bs))) (drop 18 (b ∷ bs)) (omega (arith, len)) (omega arith))

-- a command more, of what is left
pub command_more : (a b c d : Option (List ℕ)) (rest all done command more : List ℕ) (size : ℕ) → 0 < length rest → size ≡ min 18 (length rest)
    → command ≡ take size rest → more ≡ drop size rest → Appends a b done → done ++ send_lines rest ≡ send_lines all → Appends b c (codes "send") → Appends c d (hex_end command)
    → (x : List ℕ) × Appends a d x × (x ++ send_lines more ≡ send_lines all)
command_more a b c d rest all done command more size some least front back before whole word bytes = (
  done ++ (codes "send" ++ hex_end command),
  appends_more a b d done (codes "send" ++ hex_end command) before (appends_more b c d (codes "send") (hex_end command) word bytes),
  append_assoc done (send_line command) (send_lines more)
      ∙ ap (λ t. done ++ (send_line t ++ send_lines more)) (front ∙ ap (λ k. take k rest) least ∙ take_min 18 rest)
      ∙ ap (λ t. done ++ (send_line (take 18 rest) ++ send_lines t)) (back ∙ ap (λ k. drop k rest) least ∙ drop_min 18 rest)
      ∙ ap (λ t. done ++ t) (sym (send_next rest some)) ∙ whole,
)
