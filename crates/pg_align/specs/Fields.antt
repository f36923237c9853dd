-- What the fields of an alignment mean, and what they keep.
use Rattle.std.specs.Prelude.{◌≡◌, ◌+◌, ◌≤◌, ℕ, suc, [], ◌∷◌, None, Some, List, length, map, Option, vec_capacity, Bool, true, false, replicate, ◌&&◌, not, is_some, if◌then◌else◌}
use Rattle.pg_data.specs.Pieces.{Piece}
use Rattle.pg_align.specs.Slots.{OpenSlot, Aligned, HavePlaces, AreAfter, AreFree, AreRising}
use Rattle.pg_align.specs.declared.slot.Slot.{Slot}
use Rattle.pg_align.specs.declared.align.Align.TheInside.{Inside}

-- a slot of the code, as it is seen
abbrev pub slot_of : Slot → OpenSlot Piece
slot_of slot = record { slot = slot.number; ticks_left = slot.ticks_left; parts = slot.parts.items }

abbrev pub slots_of : List Slot → List (OpenSlot Piece)
slots_of slots = map slot_of slots

-- the last of these is lent, and has this many places; those before it have no part
abbrev pub AreBeforeLent : ℕ → List Slot → Type 0
AreBeforeLent places [] = Unit {0}
AreBeforeLent places (slot ∷ []) = length slot.parts.items ≡ places
AreBeforeLent places (slot ∷ next ∷ slots) = (slot.parts.items ≡ replicate places None) × AreBeforeLent places (next ∷ slots)

-- slots that are not open: all are free, or all but the last, which is lent
abbrev pub AreSpare : ℕ → Bool → List Slot → Type 0
AreSpare places false slots = AreFree places (slots_of slots)
AreSpare places true slots = AreBeforeLent places slots

-- each comes after the last slot that left
abbrev pub AreAbove : Option ℕ → List (OpenSlot Piece) → Type 0
AreAbove None slots = Unit {0}
AreAbove (Some last) slots = AreAfter last slots

-- how many effective members have no part; one past the end of the parts has none
abbrev pub lacking : List Bool → List (Option Piece) → ℕ
lacking [] parts = 0
lacking (wanted ∷ effective) [] = if wanted then suc (lacking effective []) else lacking effective []
lacking (wanted ∷ effective) (part ∷ parts) = if wanted && not (is_some part) then suc (lacking effective parts) else lacking effective parts

-- what each slot counts as missing is what is
abbrev pub AreCounted : List Bool → List Slot → Type 0
AreCounted effective [] = Unit {0}
AreCounted effective (slot ∷ slots) = (slot.missing ≡ lacking effective slot.parts.items) × AreCounted effective slots

abbrev pub aligned_of : Inside → Aligned Piece
aligned_of a =
    record {
      window = a.window;
      wait = a.wait;
      effective = a.effective.items;
      is_on = a.is_on;
      last = a.last;
      slots = slots_of a.slots.items;
      counts = a.counts;
    }

pub record AlignIsKept (a : Inside) : Type 0 where
  pub some_window : 1 ≤ a.window
  pub small_window : a.window ≤ 64
  pub small_wait : a.wait ≤ 60000
  pub wanted : a.wanted ≡ lacking a.effective.items []
  pub some_members : 1 ≤ length a.effective.items
  pub few_members : length a.effective.items ≤ 32
  -- each of the reserved slots is open, free or lent
  pub all_slots : length a.slots.items + length a.spare.items ≡ a.window + 1
  pub slots_room : a.window + 1 ≤ vec_capacity a.slots
  pub spare_room : a.window + 1 ≤ vec_capacity a.spare
  pub slots_places : HavePlaces (length a.effective.items) (slots_of a.slots.items)
  pub rising : AreRising (slots_of a.slots.items)
  pub above : AreAbove a.last (slots_of a.slots.items)
  pub counted : AreCounted a.effective.items a.slots.items
  pub spare_free : AreSpare (length a.effective.items) a.lent a.spare.items
  -- while it is off, no slot is open
  pub off : a.is_on ≡ false → a.slots.items ≡ []
