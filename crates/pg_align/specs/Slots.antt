-- A stream's open slots as they stand, and what each call makes of them.
use Rattle.std.specs.Prelude.{suc, ◌≡◌, ◌<◌, ℕ, ◌-◌, Bool, true, false, ◌||◌, ◌==◌, nat_lt, not, is_some, if◌then◌else◌, List, [], ◌∷◌, length, map, replicate, slice_get, slice_set, Option, Some, None, slice_index_or}
use Rattle.pg_align.specs.Histories.{Departed, Departures, with_first, is_above, has_all}
use Rattle.pg_align.specs.Counts.{counted_late, counted_left, no_counts, raised}
use Rattle.pg_align.specs.declared.counts.Cause.{Cause}
use Rattle.pg_align.specs.declared.counts.Cause.TheVariants.{Complete, Waited, Pushed, Changed}
use Rattle.pg_align.specs.declared.counts.SlotCounts.{SlotCounts}
use Rattle.pg_align.specs.declared.answer.Arrived.{Arrived}
use Rattle.pg_align.specs.declared.answer.Arrived.TheVariants.{Kept, Late, Twice}

-- an open slot: the ticks that are left until it is due, and a part or none for each member
pub record OpenSlot (X : Type 0) : Type 0 where
  pub slot : ℕ
  pub ticks_left : ℕ
  pub parts : List (Option X)

-- a stream: its window and wait, its effective members, whether it is on, the last slot that left, its open slots, rising, and the counts of those
-- that left since it was defined
pub record Aligned (X : Type 0) : Type 0 where
  pub window : ℕ
  pub wait : ℕ
  pub effective : List Bool
  pub is_on : Bool
  pub last : Option ℕ
  pub slots : List (OpenSlot X)
  pub counts : SlotCounts

-- a stream that was just defined
abbrev pub none_open : {X : Type 0} → ℕ → ℕ → ℕ → Aligned X
none_open window wait members =
    record { window = window; wait = wait; effective = replicate members false; is_on = false; last = None; slots = []; counts = no_counts }

module _ {X : Type 0} where
  -- the part of a slot at a place, if it is open and has one
  abbrev pub part_at : List (OpenSlot X) → ℕ → ℕ → Option X
  part_at [] slot place = None
  part_at (first ∷ slots) slot place =
      if nat_lt slot first.slot then None
      else (if first.slot == slot then slice_index_or first.parts place None else part_at slots slot place)

  -- how many are open besides this one
  abbrev pub others_than : ℕ → List (OpenSlot X) → ℕ
  others_than slot [] = 0
  others_than slot (first ∷ slots) = if first.slot == slot then others_than slot slots else suc (others_than slot slots)

  abbrev pub put_into : OpenSlot X → ℕ → X → OpenSlot X
  put_into slot place part = record slot { parts = slice_set slot.parts place (Some part) }

  -- the part is put into its slot; `fresh` is that slot where it is not open yet
  abbrev pub with_part : OpenSlot X → ℕ → X → List (OpenSlot X) → List (OpenSlot X)
  with_part fresh place part [] = fresh ∷ []
  with_part fresh place part (first ∷ slots) =
      if nat_lt fresh.slot first.slot then fresh ∷ first ∷ slots
      else (if first.slot == fresh.slot then put_into first place part ∷ slots
      else first ∷ with_part fresh place part slots)

  -- a slot that opens with one part
  abbrev pub fresh_slot : ℕ → ℕ → ℕ → ℕ → X → OpenSlot X
  fresh_slot slot wait places place part =
      record { slot = slot; ticks_left = wait; parts = slice_set (replicate places None) place (Some part) }

  abbrev pub opened : Aligned X → ℕ → ℕ → X → OpenSlot X
  opened a slot place part = fresh_slot slot a.wait (length a.effective) place part

  -- what becomes of an arrival
  abbrev pub answer_at : Aligned X → ℕ → ℕ → Arrived
  answer_at a slot place =
      if not (is_above a.last slot) then Late else (if is_some (part_at a.slots slot place) then Twice else Kept)

  abbrev pub with_kept : Aligned X → ℕ → ℕ → X → Aligned X
  with_kept a slot place part = record a { slots = with_part (opened a slot place part) place part a.slots }

  abbrev pub with_late : Aligned X → ℕ → Aligned X
  with_late a place = record a { counts = counted_late place a.counts }

  abbrev pub with_arrival : Aligned X → ℕ → ℕ → X → Aligned X
  with_arrival a slot place part =
      if not (is_above a.last slot) then with_late a place else (if is_some (part_at a.slots slot place) then a else with_kept a slot place part)

  -- the stream is on; where it was off, no slot has left yet
  abbrev pub with_start : Aligned X → Aligned X
  with_start a = if a.is_on then a else record a { is_on = true; last = None }

  -- it is off, and no slot is open
  abbrev pub with_none : Aligned X → Aligned X
  with_none a = record a { is_on = false; slots = [] }

  abbrev pub one_tick_less : OpenSlot X → OpenSlot X
  one_tick_less slot = record slot { ticks_left = slot.ticks_left - 1 }

  abbrev pub with_tick : Aligned X → Aligned X
  with_tick a = record a { slots = map one_tick_less a.slots }

  abbrev pub with_shape : Aligned X → List Bool → Aligned X
  with_shape a effective = record a { effective = effective }

  -- the least open slot is to leave: it is complete or due, or one of more than the window
  abbrev pub leaves_now : ℕ → List Bool → List (OpenSlot X) → Bool
  leaves_now window effective [] = false
  leaves_now window effective (least ∷ slots) =
      has_all effective least.parts || (least.ticks_left == 0 || nat_lt window (length (least ∷ slots)))

  abbrev pub is_leaving : Aligned X → Bool
  is_leaving a = leaves_now a.window a.effective a.slots

  -- a slot's number and parts
  abbrev pub head_with : ℕ → List (Option X) → Departed X
  head_with slot parts = record { slot = slot; parts = parts }

  abbrev pub front_of : OpenSlot X → Departed X
  front_of slot = head_with slot.slot slot.parts

  abbrev pub least_of : List (OpenSlot X) → Option (Departed X)
  least_of [] = None
  least_of (least ∷ slots) = Some (front_of least)

  -- the slot that leaves next, if one is to leave
  abbrev pub leaving_of : Aligned X → Option (Departed X)
  leaving_of a = if is_leaving a then least_of a.slots else None

  -- the slot that a flush lets leave next
  abbrev pub flushed_of : Aligned X → Option (Departed X)
  flushed_of a = least_of a.slots

  -- why an open slot is to leave
  abbrev pub cause_at : List Bool → OpenSlot X → Cause
  cause_at effective slot = if has_all effective slot.parts then Complete else (if slot.ticks_left == 0 then Waited else Pushed)

  -- of a stream that then has these open slots, one has left for this cause
  abbrev pub with_left : Cause → Aligned X → OpenSlot X → List (OpenSlot X) → Aligned X
  with_left cause a least slots =
      record a { last = Some least.slot; slots = slots; counts = counted_left cause a.effective least.parts a.counts }

  -- the least of these open slots has left by itself
  abbrev pub without_first : Aligned X → List (OpenSlot X) → Aligned X
  without_first a [] = a
  without_first a (least ∷ slots) = with_left (cause_at a.effective least) a least slots

  -- it has left by a flush
  abbrev pub flushed_first : Aligned X → List (OpenSlot X) → Aligned X
  flushed_first a [] = a
  flushed_first a (least ∷ slots) = with_left Changed a least slots

  -- the least open slot has left by a flush
  abbrev pub after_flush : Aligned X → Aligned X
  after_flush a = flushed_first a a.slots

  -- it has left, if it was to leave
  abbrev pub after_leaving : Aligned X → Aligned X
  after_leaving a = if is_leaving a then without_first a a.slots else a

  -- a slot has left that was never open, with the parts of all effective members
  abbrev pub with_last : Aligned X → ℕ → Aligned X
  with_last a slot = record a { last = Some slot; counts = raised Complete a.counts }

  -- The least of these open slots have left, one after another, while each was to leave.
  abbrev pub all_leaving_of : Aligned X → List (OpenSlot X) → Departures X (Aligned X)
  all_leaving_of a [] = record { frames = []; after = a }
  all_leaving_of a (least ∷ slots) =
      if leaves_now a.window a.effective (least ∷ slots)
      then with_first (front_of least) (all_leaving_of (without_first a (least ∷ slots)) slots)
      else record { frames = []; after = a }

  -- all that are to leave, and what is left behind
  abbrev pub all_leaving : Aligned X → Departures X (Aligned X)
  all_leaving a = all_leaving_of a a.slots

  -- these open slots have all left
  abbrev pub all_flushed_of : Aligned X → List (OpenSlot X) → Departures X (Aligned X)
  all_flushed_of a [] = record { frames = []; after = a }
  all_flushed_of a (least ∷ slots) = with_first (front_of least) (all_flushed_of (flushed_first a (least ∷ slots)) slots)

  -- all open slots, and what is left behind
  abbrev pub all_flushed : Aligned X → Departures X (Aligned X)
  all_flushed a = all_flushed_of a a.slots

  -- ---- only private contracts and proofs use what follows

  -- each has this many places
  abbrev pub HavePlaces : ℕ → List (OpenSlot X) → Type 0
  HavePlaces places [] = Unit {0}
  HavePlaces places (first ∷ slots) = (length first.parts ≡ places) × HavePlaces places slots

  -- each has this many places, and no part
  abbrev pub AreFree : ℕ → List (OpenSlot X) → Type 0
  AreFree places [] = Unit {0}
  AreFree places (first ∷ slots) = (first.parts ≡ replicate places None) × AreFree places slots

  -- each comes after this slot
  abbrev pub AreAfter : ℕ → List (OpenSlot X) → Type 0
  AreAfter slot [] = Unit {0}
  AreAfter slot (first ∷ slots) = (slot < first.slot) × AreAfter slot slots

  -- their numbers rise
  abbrev pub AreRising : List (OpenSlot X) → Type 0
  AreRising [] = Unit {0}
  AreRising (first ∷ slots) = AreAfter first.slot slots × AreRising slots

  -- how many slots come before this one
  abbrev pub count_below : ℕ → List (OpenSlot X) → ℕ
  count_below slot [] = 0
  count_below slot (first ∷ slots) = if nat_lt first.slot slot then suc (count_below slot slots) else 0

  -- the slot is open, and stands at this place
  pub record StandsAt (slot : ℕ) (slots : List (OpenSlot X)) (at : ℕ) : Type 0 where
    pub here : OpenSlot X
    pub found : slice_get slots at ≡ Some here
    pub same : here.slot ≡ slot
    pub place : at ≡ count_below slot slots
