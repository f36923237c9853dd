-- Qualities that are joined one after another.
use Rattle.std.proofs.Common.{◌≡◌, ℕ, zero, suc, ◌+◌, ◌<◌, List, [], ◌∷◌, ◌++◌, length, take, get_or, fold, max, Option, Some, None, option_map, refl, sym, ap, ◌∙◌, arith}
use Rattle.std.proofs.lemmas.Bool.Decides.{nat_tests}
use Rattle.std.proofs.lemmas.Grind.{common_steps}
use Rattle.std.specs.Ordering.{ord_max, nat_cmp}
use Rattle.std.specs.List.{cons_option}
use Rattle.std.specs.Int.Bits.{bit_or, or_add_and}
use Rattle.std.proofs.lemmas.Nat.{and_or_self}
use Rattle.pg_data.specs.Pieces.{Piece}
use Rattle.pg_outcfg.specs.Frames.{qualities_of}
use Rattle.pg_outcfg.specs.Quality.{leap_flags, quality_code, joined_flags, greatest_code}

in-front : (o : Option ℕ) (whole front back : List ℕ) → whole ≡ front ++ back → cons_option o whole ≡ cons_option o front ++ back
in-front None whole front back is = is
in-front (Some n) whole front back is = ap (λ l. n ∷ l) is

more : (pieces : List (Option Piece)) (i : ℕ) (piece : Option Piece) → i < length pieces → piece ≡ get_or pieces i piece
    → qualities_of (take (suc i) pieces) ≡ qualities_of (take i pieces) ++ qualities_of (piece ∷ [])
more [] i piece lt is = absurd (omega arith)
more (p ∷ ps) zero piece lt is = ap (λ q. qualities_of (q ∷ [])) (sym is)
more (p ∷ ps) (suc i) piece lt is = in-front (option_map (λ q. q.quality) p) _ _ _ (more ps i piece (omega arith) is)

fold-push : {A B : Type 0} (f : B → A → B) (a : B) (xs : List A) (x : A) → fold f a (xs ++ x ∷ []) ≡ f (fold f a xs) x
fold-push f a [] x = refl
fold-push f a (y ∷ ys) x = fold-push f (f a y) ys x

-- one piece more
pub qualities-more : (pieces : List (Option Piece)) (i : ℕ) (piece : Option Piece) → i < length pieces → piece ≡ get_or pieces i piece
    → qualities_of (take (i + 1) pieces) ≡ qualities_of (take i pieces) ++ qualities_of (piece ∷ [])
qualities-more pieces i piece lt is = ap (λ n. qualities_of (take n pieces)) (let one : i + 1 ≡ suc i = omega arith in one) ∙ more pieces i piece lt is

pub flags-more : (qualities : List ℕ) (quality : ℕ) → joined_flags (qualities ++ quality ∷ []) ≡ bit_or (joined_flags qualities) (leap_flags quality)
flags-more = fold-push (λ flags q. bit_or flags (leap_flags q)) 0

pub code-more : (qualities : List ℕ) (quality : ℕ) → greatest_code (qualities ++ quality ∷ []) ≡ max (greatest_code qualities) (quality_code quality)
code-more = fold-push (λ code q. max code (quality_code q)) 0

-- flags that were joined are joined again to no effect
pub flags-again : (flags more : ℕ) → bit_or (bit_or flags more) more ≡ bit_or flags more
flags-again flags more = omega (arith, or_add_and (bit_or flags more) more, and_or_self more flags)

-- the greater of two numbers by their order
pub greater : (a b : ℕ) → ord_max nat_cmp a b ≡ max a b
greater a b = grind (arith, nat_tests, common_steps)
