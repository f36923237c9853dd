-- What slots count as missing.
use Rattle.std.proofs.Common.{◌≡◌, ℕ, zero, suc, ◌+◌, ◌-◌, ◌<◌, Bool, true, false, ◌||◌, ◌&&◌, if◌then◌else◌, List, [], ◌∷◌, ◌++◌, length, get_or, set, drop, replicate, Option, Some, None, is_some, refl, sym, ap, arith}
use Rattle.std.specs.Prelude.{IsTrue, not, nat_lt, insert, slice_get, ◌==◌}
use Rattle.std.proofs.lemmas.List.{drop_more, length-map}
use Rattle.std.proofs.lemmas.Grind.{common_steps}
use Rattle.pg_data.specs.Pieces.{Piece}
use Rattle.pg_align.specs.Histories.{has_all}
use Rattle.pg_align.specs.Slots.{leaves_now}
use Rattle.pg_align.specs.Fields.{lacking, AreCounted, slot_of, slots_of}
use Rattle.pg_align.specs.declared.slot.Slot.{Slot}

-- ---- complete is: none is missing

not_none : (n : ℕ) → (suc n == 0) ≡ false
not_none n = grind (arith, common_steps)

complete_step : (wanted has rest : Bool) (n : ℕ) → rest ≡ (n == 0) → ((has || not wanted) && rest) ≡ ((if wanted && not has then suc n else n) == 0)
complete_step true true rest n e = e
complete_step true false rest n e = sym (not_none n)
complete_step false true rest n e = e
complete_step false false rest n e = e

absent_step : (wanted rest : Bool) (n : ℕ) → rest ≡ (n == 0) → (not wanted && rest) ≡ ((if wanted then suc n else n) == 0)
absent_step true rest n e = sym (not_none n)
absent_step false rest n e = e

pub complete : (effective : List Bool) (parts : List (Option Piece)) → has_all effective parts ≡ (lacking effective parts == 0)
complete [] parts = refl
complete (wanted ∷ effective) [] = absent_step wanted (has_all {X = Piece} effective []) (lacking effective []) (complete effective [])
complete (wanted ∷ effective) (part ∷ parts) = complete_step wanted (is_some part) (has_all effective parts) (lacking effective parts) (complete effective parts)

-- ---- a part comes

first_one : (wanted : Bool) (here : Option Piece) (n : ℕ) → IsTrue wanted → here ≡ None → (if wanted && false then suc n else n) + 1 ≡ (if wanted && not (is_some here) then suc n else n)
first_one true None n t e = omega arith
first_one true (Some x) n t e = absurd cc
first_one false here n t e = absurd (let no : false ≡ true = t in cc)

later_one : (b : Bool) (less more : ℕ) → less + 1 ≡ more → (if b then suc less else less) + 1 ≡ (if b then suc more else more)
later_one true less more e = omega (arith, e)
later_one false less more e = e

one_less : (effective : List Bool) (parts : List (Option Piece)) (place : ℕ) (part : Piece) → IsTrue (get_or effective place false) → place < length parts → get_or parts place None ≡ None → lacking effective (set parts place (Some part)) + 1 ≡ lacking effective parts
one_less [] parts place part t l e = absurd (let no : false ≡ true = t in cc)
one_less (wanted ∷ effective) [] place part t l e = absurd (omega (arith, l))
one_less (wanted ∷ effective) (here ∷ parts) zero part t l e = first_one wanted here (lacking effective parts) t e
one_less (wanted ∷ effective) (here ∷ parts) (suc place) part t l e =
    later_one (wanted && not (is_some here)) (lacking effective (set parts place (Some part))) (lacking effective parts) (one_less effective parts place part t (omega (arith, l)) e)

pub put_counted : (effective : List Bool) (parts : List (Option Piece)) (place : ℕ) (part : Piece) (missing : ℕ) → missing ≡ lacking effective parts → IsTrue (get_or effective place false) → place < length parts → get_or parts place None ≡ None → missing - 1 ≡ lacking effective (set parts place (Some part))
put_counted effective parts place part missing m t l e =
    let less = one_less effective parts place part t l e in
    omega (arith, less, m)

-- where no part came, all that are effective are missing
pub none_came : (effective : List Bool) (places : ℕ) → lacking effective (replicate places None) ≡ lacking effective []
none_came [] places = refl
none_came (wanted ∷ effective) zero = refl
none_came (true ∷ effective) (suc places) = ap suc (none_came effective places)
none_came (false ∷ effective) (suc places) = none_came effective places

-- and no place of a free slot has a part
pub none_there : (places place : ℕ) → ◌≡◌ {A = Option Piece} (get_or (replicate places None) place None) None
none_there zero place = refl
none_there (suc places) zero = refl
none_there (suc places) (suc place) = none_there places place

-- at first no member is effective
pub none_wanted : (places : ℕ) → lacking (replicate places false) [] ≡ 0
none_wanted zero = refl
none_wanted (suc places) = none_wanted places

-- one more member is looked at
pub wanted_more : (effective : List Bool) (i : ℕ) → i < length effective → lacking (drop i effective) [] ≡ (if get_or effective i false then suc (lacking (drop (i + 1) effective) []) else lacking (drop (i + 1) effective) [])
wanted_more effective i h = rw (drop_more effective i false h) refl

-- ---- lists of slots

-- the least of them is to leave
pub leaves_first : (effective : List Bool) (slots : List Slot) (least : Slot) (window : ℕ) → AreCounted effective slots → slice_get slots 0 ≡ Some least → leaves_now window effective (slots_of slots) ≡ ((least.missing == 0) || ((least.ticks_left == 0) || nat_lt window (length slots)))
leaves_first effective [] least window h e = absurd cc
leaves_first effective (first ∷ slots) least window h e =
    let same : first ≡ least = cc in
    let long : length (slot_of first ∷ slots_of slots) ≡ suc (length slots) = ap suc (length-map slots slot_of) in
    rw (← same, complete effective first.parts.items, h.0, long) refl

pub counted-at : (effective : List Bool) (slots : List Slot) (at : ℕ) (slot : Slot) → AreCounted effective slots → at < length slots → slot ≡ get_or slots at slot → slot.missing ≡ lacking effective slot.parts.items
counted-at effective [] at slot h l e = absurd (omega (arith, l))
counted-at effective (first ∷ slots) zero slot h l e = rw e h.0
counted-at effective (first ∷ slots) (suc at) slot h l e = counted-at effective slots at slot h.1 (omega (arith, l)) e

pub counted-got : (effective : List Bool) (slots : List Slot) (at : ℕ) (d : Slot) → AreCounted effective slots → at < length slots → (get_or slots at d).missing ≡ lacking effective (get_or slots at d).parts.items
counted-got effective [] at d h l = absurd (omega (arith, l))
counted-got effective (first ∷ slots) zero d h l = h.0
counted-got effective (first ∷ slots) (suc at) d h l = counted-got effective slots at d h.1 (omega (arith, l))

pub counted-set : (effective : List Bool) (slots : List Slot) (at : ℕ) (slot : Slot) → AreCounted effective slots → slot.missing ≡ lacking effective slot.parts.items → AreCounted effective (set slots at slot)
counted-set effective [] at slot h e = tt
counted-set effective (first ∷ slots) zero slot h e = (e, h.1)
counted-set effective (first ∷ slots) (suc at) slot h e = (h.0, counted-set effective slots at slot h.1 e)

pub counted-insert : (effective : List Bool) (slots : List Slot) (at : ℕ) (slot : Slot) → AreCounted effective slots → slot.missing ≡ lacking effective slot.parts.items → AreCounted effective (insert slots at slot)
counted-insert effective [] zero slot h e = (e, tt)
counted-insert effective [] (suc at) slot h e = (e, tt)
counted-insert effective (first ∷ slots) zero slot h e = (e, h)
counted-insert effective (first ∷ slots) (suc at) slot h e = (h.0, counted-insert effective slots at slot h.1 e)

pub counted-end : (effective : List Bool) (slots : List Slot) (slot : Slot) → AreCounted effective slots → slot.missing ≡ lacking effective slot.parts.items → AreCounted effective (slots ++ slot ∷ [])
counted-end effective [] slot h e = (e, tt)
counted-end effective (first ∷ slots) slot h e = (h.0, counted-end effective slots slot h.1 e)
