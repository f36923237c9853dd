-- What each call keeps of the reserved slots.
use Rattle.std.proofs.Common.{Bool, List, Option, None, Some, [], false, get_or, set, length, length-set, map, refl, replicate, suc, true, zero, ℕ, ◌++◌, ◌∙◌, ◌∷◌, ◌≡◌, ◌+◌, ◌<◌, arith}
use Rattle.std.proofs.lemmas.List.{length-map, map-append, length-replicate}
use Rattle.std.proofs.lemmas.Grind.{common_steps}
use Rattle.std.specs.Prelude.{nat_lt, ◌==◌, slice_get}
use Rattle.pg_data.specs.Pieces.{Piece}
use Rattle.pg_align.specs.Histories.{is_above}
use Rattle.pg_align.specs.Fields.{AreAbove, AreBeforeLent, slots_of}
use Rattle.pg_align.specs.declared.slot.Slot.{Slot}
use Rattle.pg_align.specs.Slots.{with_part, OpenSlot, HavePlaces, AreFree, AreAfter, AreRising, one_tick_less}

module _ {X : Type 0} (places : ℕ) where
  pub HavePlaces-ticked : (slots : List (OpenSlot X)) → HavePlaces places slots → HavePlaces places (map one_tick_less slots)
  HavePlaces-ticked [] h = h
  HavePlaces-ticked (first ∷ slots) h = (h.0, HavePlaces-ticked slots h.1)

  pub AreFree-push : (slots : List (OpenSlot X)) (last : OpenSlot X) → AreFree places slots → last.parts ≡ replicate places None → AreFree places (slots ++ last ∷ [])
  AreFree-push [] last h e = (e, tt)
  AreFree-push (first ∷ slots) last h e = (h.0, AreFree-push slots last h.1 e)

  pub HavePlaces-at : (slots : List (OpenSlot X)) (at : ℕ) (slot : OpenSlot X) → HavePlaces places slots → slice_get slots at ≡ Some slot → length slot.parts ≡ places
  HavePlaces-at [] at slot h e = absurd cc
  HavePlaces-at (first ∷ slots) zero slot h e = let same : first ≡ slot = cc in rw (← same) h.0
  HavePlaces-at (first ∷ slots) (suc at) slot h e = HavePlaces-at slots at slot h.1 e

  places_step : (fresh : OpenSlot X) (place : ℕ) (part : X) (first : OpenSlot X) (slots : List (OpenSlot X)) (b e : Bool) → nat_lt fresh.slot first.slot ≡ b → (first.slot == fresh.slot) ≡ e → HavePlaces places (first ∷ slots) → length fresh.parts ≡ places → HavePlaces places (with_part fresh place part slots) → HavePlaces places (with_part fresh place part (first ∷ slots))
  places_step fresh place part first slots true e b q h f below = rw b (f, h)
  places_step fresh place part first slots false true b q h f below = rw (b, q) (length-set first.parts place (Some part) ∙ h.0, h.1)
  places_step fresh place part first slots false false b q h f below = rw (b, q) (h.0, below)

  pub HavePlaces-with_part : (fresh : OpenSlot X) (place : ℕ) (part : X) (slots : List (OpenSlot X)) → HavePlaces places slots → length fresh.parts ≡ places → HavePlaces places (with_part fresh place part slots)
  HavePlaces-with_part fresh place part [] h f = (f, tt)
  HavePlaces-with_part fresh place part (first ∷ slots) h f =
      places_step fresh place part first slots _ _ refl refl h f (HavePlaces-with_part fresh place part slots h.1 f)

  pub AreFree-last : (slots : List (OpenSlot X)) (last : OpenSlot X) → AreFree places (slots ++ last ∷ []) → AreFree places slots × (last.parts ≡ replicate places None)
  AreFree-last [] last h = (tt, h.0)
  AreFree-last (first ∷ slots) last h = let below = AreFree-last slots last h.1 in ((h.0, below.0), below.1)

  -- all places but the last slot's
  pub HavePlaces-last : (slots : List (OpenSlot X)) (last : OpenSlot X) → HavePlaces places (slots ++ last ∷ []) → HavePlaces places slots × (length last.parts ≡ places)
  HavePlaces-last [] last h = (tt, h.0)
  HavePlaces-last (first ∷ slots) last h = let below = HavePlaces-last slots last h.1 in ((h.0, below.0), below.1)

module _ {X : Type 0} where
  AreAfter-ticked : (slot : ℕ) (slots : List (OpenSlot X)) → AreAfter slot slots → AreAfter slot (map one_tick_less slots)
  AreAfter-ticked slot [] h = tt
  AreAfter-ticked slot (first ∷ slots) h = (h.0, AreAfter-ticked slot slots h.1)

  -- a tick keeps their order
  pub AreRising-ticked : (slots : List (OpenSlot X)) → AreRising slots → AreRising (map one_tick_less slots)
  AreRising-ticked [] h = tt
  AreRising-ticked (first ∷ slots) h = (AreAfter-ticked first.slot slots h.0, AreRising-ticked slots h.1)

  -- what comes after a slot comes after those before it
  pub AreAfter-lower : (slot higher : ℕ) (slots : List (OpenSlot X)) → slot < higher → AreAfter higher slots → AreAfter slot slots
  AreAfter-lower slot higher [] l h = tt
  AreAfter-lower slot higher (first ∷ slots) l h = (omega (arith, h.0), AreAfter-lower slot higher slots l h.1)

  after_step : (slot : ℕ) (fresh : OpenSlot X) (place : ℕ) (part : X) (first : OpenSlot X) (slots : List (OpenSlot X)) (b e : Bool) → nat_lt fresh.slot first.slot ≡ b → (first.slot == fresh.slot) ≡ e → slot < fresh.slot → AreAfter slot (first ∷ slots) → AreAfter slot (with_part fresh place part slots) → AreAfter slot (with_part fresh place part (first ∷ slots))
  after_step slot fresh place part first slots true e b q l h below = rw b (l, h)
  after_step slot fresh place part first slots false true b q l h below = rw (b, q) h
  after_step slot fresh place part first slots false false b q l h below = rw (b, q) (h.0, below)

  AreAfter-with_part : (slot : ℕ) (fresh : OpenSlot X) (place : ℕ) (part : X) (slots : List (OpenSlot X)) → slot < fresh.slot → AreAfter slot slots → AreAfter slot (with_part fresh place part slots)
  AreAfter-with_part slot fresh place part [] l h = (l, tt)
  AreAfter-with_part slot fresh place part (first ∷ slots) l h =
      after_step slot fresh place part first slots _ _ refl refl l h (AreAfter-with_part slot fresh place part slots l h.1)

  rising_step : (fresh : OpenSlot X) (place : ℕ) (part : X) (first : OpenSlot X) (slots : List (OpenSlot X)) (b e : Bool) → nat_lt fresh.slot first.slot ≡ b → (first.slot == fresh.slot) ≡ e → AreRising (first ∷ slots) → AreRising (with_part fresh place part slots) → AreRising (with_part fresh place part (first ∷ slots))
  rising_step fresh place part first slots true e b q h below =
      let l : fresh.slot < first.slot = grind (arith, common_steps) in
      rw b ((l, AreAfter-lower fresh.slot first.slot slots l h.0), h)
  rising_step fresh place part first slots false true b q h below = rw (b, q) h
  rising_step fresh place part first slots false false b q h below =
      let l : first.slot < fresh.slot = grind (arith, common_steps) in
      rw (b, q) (AreAfter-with_part first.slot fresh place part slots l h.0, below)

  -- an arrival keeps their order
  pub AreRising-with_part : (fresh : OpenSlot X) (place : ℕ) (part : X) (slots : List (OpenSlot X)) → AreRising slots → AreRising (with_part fresh place part slots)
  AreRising-with_part fresh place part [] h = (tt, tt)
  AreRising-with_part fresh place part (first ∷ slots) h = rising_step fresh place part first slots _ _ refl refl h (AreRising-with_part fresh place part slots h.1)

-- what was lent is free once its parts are given up
pub AreBeforeLent-cleared : (places : ℕ) (slots : List Slot) (at : ℕ) (slot : Slot) → AreBeforeLent places slots → at + 1 ≡ length slots → slot.parts.items ≡ replicate places None → AreFree places (slots_of (set slots at slot))
AreBeforeLent-cleared places [] at slot h l e = tt
AreBeforeLent-cleared places (first ∷ []) zero slot h l e = (e, tt)
AreBeforeLent-cleared places (first ∷ []) (suc at) slot h l e = absurd (omega (arith, l))
AreBeforeLent-cleared places (first ∷ next ∷ slots) zero slot h l e = absurd (omega (arith, l))
AreBeforeLent-cleared places (first ∷ next ∷ slots) (suc at) slot h l e = (h.0, AreBeforeLent-cleared places (next ∷ slots) at slot h.1 (omega (arith, l)) e)

-- it has all places
pub AreBeforeLent-last : (places : ℕ) (slots : List Slot) (at : ℕ) (slot : Slot) → AreBeforeLent places slots → at + 1 ≡ length slots → slot ≡ get_or slots at slot → length slot.parts.items ≡ places
AreBeforeLent-last places [] at slot h l e = absurd (omega (arith, l))
AreBeforeLent-last places (first ∷ []) zero slot h l e = rw e h
AreBeforeLent-last places (first ∷ []) (suc at) slot h l e = absurd (omega (arith, l))
AreBeforeLent-last places (first ∷ next ∷ slots) zero slot h l e = absurd (omega (arith, l))
AreBeforeLent-last places (first ∷ next ∷ slots) (suc at) slot h l e = AreBeforeLent-last places (next ∷ slots) at slot h.1 (omega (arith, l)) e

-- a slot that is lent stands behind free ones
pub AreBeforeLent-push : (places : ℕ) (slots : List Slot) (last : Slot) → AreFree places (slots_of slots) → length last.parts.items ≡ places → AreBeforeLent places (slots ++ last ∷ [])
AreBeforeLent-push places [] last h e = e
AreBeforeLent-push places (first ∷ []) last h e = (h.0, e)
AreBeforeLent-push places (first ∷ next ∷ slots) last h e = (h.0, AreBeforeLent-push places (next ∷ slots) last h.1 e)

-- none is at or below the last slot that left
pub AreAbove-none : (last : Option ℕ) → AreAbove last []
AreAbove-none None = tt
AreAbove-none (Some last) = tt

pub AreAbove-ticked : (last : Option ℕ) (slots : List (OpenSlot Piece)) → AreAbove last slots → AreAbove last (map one_tick_less slots)
AreAbove-ticked None slots h = tt
AreAbove-ticked (Some last) slots h = AreAfter-ticked last slots h

pub AreAbove-with_part : (last : Option ℕ) (fresh : OpenSlot Piece) (place : ℕ) (part : Piece) (slots : List (OpenSlot Piece)) → is_above last fresh.slot ≡ true → AreAbove last slots → AreAbove last (with_part fresh place part slots)
AreAbove-with_part None fresh place part slots e h = tt
AreAbove-with_part (Some last) fresh place part slots e h =
    let l : last < fresh.slot = grind (arith, common_steps) in
    AreAfter-with_part last fresh place part slots l h

-- one that is open comes after the last one that left
pub AreAbove-at : (last : Option ℕ) (slots : List (OpenSlot Piece)) (at : ℕ) (slot : OpenSlot Piece) → AreAbove last slots → slice_get slots at ≡ Some slot → is_above last slot.slot ≡ true
AreAbove-at None slots at slot h e = refl
AreAbove-at (Some last) [] at slot h e = absurd cc
AreAbove-at (Some last) (first ∷ slots) zero slot h e =
    let same : first ≡ slot = cc in
    let l : last < slot.slot = rw (← same) h.0 in
    grind (arith, common_steps)
AreAbove-at (Some last) (first ∷ slots) (suc at) slot h e = AreAbove-at (Some last) slots at slot h.1 e

pub ruleset kept_steps = (HavePlaces-ticked, AreRising-ticked, AreAbove-ticked, AreFree-push, length-map, map-append, common_steps)
