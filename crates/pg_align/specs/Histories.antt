-- A stream by the list of all arrivals that it kept in this on-period. The part that an arrival brings may be anything.
use Rattle.std.specs.Prelude.{◌≡◌, ℕ, zero, suc, ◌+◌, ◌-◌, IsTrue, Bool, true, false, ◌&&◌, ◌||◌, ◌==◌, not, is_some, nat_lt, nat_le, if◌then◌else◌, List, [], ◌∷◌, length, replicate, Option, Some, None, unwrap_or}
use Rattle.pg_align.specs.Counts.{Past, left_for, came_late}
use Rattle.pg_align.specs.declared.counts.Cause.{Cause}
use Rattle.pg_align.specs.declared.counts.Cause.TheVariants.{Complete, Waited, Pushed, Changed}
use Rattle.pg_align.specs.declared.answer.Arrived.{Arrived}
use Rattle.pg_align.specs.declared.answer.Arrived.TheVariants.{Kept, Late, Twice}

-- a part that was kept, for a slot and for a member by its place in the definition, and the tick count at which it came
pub record Arrival (X : Type 0) : Type 0 where
  pub slot : ℕ
  pub place : ℕ
  pub part : X
  pub tick : ℕ

-- a stream: its window and wait, which members are effective (a Bool for each), whether it is on, the last slot that left
-- in this on-period, the arrivals kept in it, the newest first, the ticks so far, and all since it was defined that its counts look back on,
-- the newest first
pub record StreamHistory (X : Type 0) : Type 0 where
  pub window : ℕ
  pub wait : ℕ
  pub effective : List Bool
  pub is_on : Bool
  pub last : Option ℕ
  pub arrivals : List (Arrival X)
  pub ticks : ℕ
  pub past : List (Past X)

-- a slot that left, and for each member what had come for it
pub record Departed (X : Type 0) : Type 0 where
  pub slot : ℕ
  pub parts : List (Option X)

-- the slots that left, in their order, and what is left behind
pub record Departures (X : Type 0) (Z : Type 0) : Type 0 where
  pub frames : List (Departed X)
  pub after : Z

-- its number
abbrev pub slot_left : {X : Type 0} → Departed X → ℕ
slot_left left = left.slot

-- this slot left first, and then those
abbrev pub with_first : {X Z : Type 0} → Departed X → Departures X Z → Departures X Z
with_first first rest = record { frames = first ∷ rest.frames; after = rest.after }

-- the slot comes after the last one that left
abbrev pub is_above : Option ℕ → ℕ → Bool
is_above None slot = true
is_above (Some last) slot = nat_lt last slot

-- These slots rise strictly, all of them above `last`, and `end` is the last of them; where there is none, `end` is `last`.
abbrev pub RiseTo : Option ℕ → Option ℕ → List ℕ → Type 0
RiseTo end last [] = last ≡ end
RiseTo end last (slot ∷ slots) = IsTrue (is_above last slot) × RiseTo end (Some slot) slots

-- a number is put into a rising list, once
abbrev pub put_number : ℕ → List ℕ → List ℕ
put_number n [] = n ∷ []
put_number n (m ∷ ms) = if nat_lt n m then n ∷ m ∷ ms else (if m == n then m ∷ ms else m ∷ put_number n ms)

-- Each effective member has a part: `effective` says of each member whether it is, `parts` what came for it. A member past the
-- end of `parts` has none.
abbrev pub has_all : {X : Type 0} → List Bool → List (Option X) → Bool
has_all [] parts = true
has_all {X = X} (wanted ∷ effective) [] = not wanted && has_all {X = X} effective []
has_all (wanted ∷ effective) (part ∷ parts) = (is_some part || not wanted) && has_all effective parts

-- a stream that was just defined: it is off, and no member is effective
abbrev pub opening : {X : Type 0} → ℕ → ℕ → ℕ → StreamHistory X
opening window wait members =
    record { window = window; wait = wait; effective = replicate members false; is_on = false; last = None; arrivals = []; ticks = 0; past = [] }

module _ {X : Type 0} where
  -- what came for a slot and a place
  abbrev pub arrived : List (Arrival X) → ℕ → ℕ → Option X
  arrived [] slot place = None
  arrived (a ∷ arrivals) slot place = if a.slot == slot && a.place == place then Some a.part else arrived arrivals slot place

  -- when the first arrival for a slot came
  abbrev pub first_tick : List (Arrival X) → ℕ → Option ℕ
  first_tick [] slot = None
  first_tick (a ∷ arrivals) slot = if a.slot == slot then Some (unwrap_or (first_tick arrivals slot) a.tick) else first_tick arrivals slot

  -- the distinct slots of the arrivals that are above the last one that left, rising
  abbrev pub open_numbers : Option ℕ → List (Arrival X) → List ℕ
  open_numbers last [] = []
  open_numbers last (a ∷ arrivals) = if is_above last a.slot then put_number a.slot (open_numbers last arrivals) else open_numbers last arrivals

  -- the open slots
  abbrev pub open_slots : StreamHistory X → List ℕ
  open_slots h = open_numbers h.last h.arrivals

  -- what came for a slot, for n places from one on
  abbrev pub parts_from : List (Arrival X) → ℕ → ℕ → ℕ → List (Option X)
  parts_from arrivals slot place zero = []
  parts_from arrivals slot place (suc n) = arrived arrivals slot place ∷ parts_from arrivals slot (place + 1) n

  -- what came for a slot, for each member
  abbrev pub parts_for : StreamHistory X → ℕ → List (Option X)
  parts_for h slot = parts_from h.arrivals slot 0 (length h.effective)

  -- each effective member has an arrival for the slot
  abbrev pub is_complete : StreamHistory X → ℕ → Bool
  is_complete h slot = has_all h.effective (parts_for h slot)

  -- the ticks since the first arrival for a slot
  abbrev pub ticks_since : StreamHistory X → ℕ → ℕ
  ticks_since h slot = h.ticks - unwrap_or (first_tick h.arrivals slot) h.ticks

  -- these are at least the wait
  abbrev pub is_due : StreamHistory X → ℕ → Bool
  is_due h slot = nat_le h.wait (ticks_since h slot)

  -- Of these open slots the least is to leave: it is complete, due, or one of more than the window.
  abbrev pub is_to_leave : StreamHistory X → List ℕ → Bool
  is_to_leave h [] = false
  is_to_leave h (slot ∷ slots) = is_complete h slot || (is_due h slot || nat_lt h.window (length (slot ∷ slots)))

  -- the slot with what came for it, as it leaves
  abbrev pub departed : StreamHistory X → ℕ → Departed X
  departed h slot = record { slot = slot; parts = parts_for h slot }

  -- why the slot is to leave
  abbrev pub cause_of : StreamHistory X → ℕ → Cause
  cause_of h slot = if is_complete h slot then Complete else (if is_due h slot then Waited else Pushed)

  -- the slot has left, for this cause
  abbrev pub left : StreamHistory X → Cause → ℕ → StreamHistory X
  left h cause slot = record h { last = Some slot; past = left_for cause h.effective (parts_for h slot) ∷ h.past }

  -- An arrival is late where its slot is at or below the last one that left, else twice where one of its slot and place
  -- was kept, else it is kept.
  abbrev pub answer_to : StreamHistory X → ℕ → ℕ → Arrived
  answer_to h slot place =
      if not (is_above h.last slot) then Late else (if is_some (arrived h.arrivals slot place) then Twice else Kept)

  -- an arrival is appended
  abbrev pub keep_arrival : StreamHistory X → ℕ → ℕ → X → StreamHistory X
  keep_arrival h slot place part =
      record h { arrivals = record { slot = slot; place = place; part = part; tick = h.ticks } ∷ h.arrivals }

  -- an arrival was late
  abbrev pub with_late : StreamHistory X → ℕ → StreamHistory X
  with_late h place = record h { past = came_late place ∷ h.past }

  -- An arrival comes: it is kept, or only looked back on as late, or, where it comes twice, changes nothing.
  abbrev pub take_arrival : StreamHistory X → ℕ → ℕ → X → StreamHistory X
  take_arrival h slot place part =
      if not (is_above h.last slot) then with_late h place else (if is_some (arrived h.arrivals slot place) then h else keep_arrival h slot place part)

  -- one tick more
  abbrev pub ticked : StreamHistory X → StreamHistory X
  ticked h = record h { ticks = h.ticks + 1 }

  -- an on-period begins, with no last slot and no arrival; a stream that is on stays as it is
  abbrev pub started : StreamHistory X → StreamHistory X
  started h = if h.is_on then h else record h { is_on = true; last = None; arrivals = [] }

  -- the stream is switched off, and its arrivals are discarded
  abbrev pub discarded : StreamHistory X → StreamHistory X
  discarded h = record h { is_on = false; arrivals = [] }

  -- other members are effective
  abbrev pub reshaped : StreamHistory X → List Bool → StreamHistory X
  reshaped h effective = record h { effective = effective }

  -- the least of these open slots, where it is to leave
  abbrev pub least_to_leave : StreamHistory X → List ℕ → Option (Departed X)
  least_to_leave h [] = None
  least_to_leave h (slot ∷ slots) = if is_to_leave h (slot ∷ slots) then Some (departed h slot) else None

  -- the slot that leaves next, if one is to leave
  abbrev pub next_to_leave : StreamHistory X → Option (Departed X)
  next_to_leave h = least_to_leave h (open_slots h)

  abbrev pub leave_least : StreamHistory X → List ℕ → StreamHistory X
  leave_least h [] = h
  leave_least h (slot ∷ slots) = if is_to_leave h (slot ∷ slots) then left h (cause_of h slot) slot else h

  -- it has left, if one was to leave
  abbrev pub leave_one : StreamHistory X → StreamHistory X
  leave_one h = leave_least h (open_slots h)

  -- While the least open slot is complete, due, or one of more than the window, its frame is made and it becomes the last
  -- one that left. These are the open slots, rising.
  abbrev pub leave_in_turn : StreamHistory X → List ℕ → Departures X (StreamHistory X)
  leave_in_turn h [] = record { frames = []; after = h }
  leave_in_turn h (slot ∷ slots) =
      if is_to_leave h (slot ∷ slots)
      then with_first (departed h slot) (leave_in_turn (left h (cause_of h slot) slot) slots)
      else record { frames = []; after = h }

  -- all that are to leave leave
  abbrev pub leave_all : StreamHistory X → Departures X (StreamHistory X)
  leave_all h = leave_in_turn h (open_slots h)

  abbrev pub first_of_open : StreamHistory X → List ℕ → Option (Departed X)
  first_of_open h [] = None
  first_of_open h (slot ∷ slots) = Some (departed h slot)

  -- the slot that a flush lets leave next
  abbrev pub next_to_flush : StreamHistory X → Option (Departed X)
  next_to_flush h = first_of_open h (open_slots h)

  abbrev pub flush_least : StreamHistory X → List ℕ → StreamHistory X
  flush_least h [] = h
  flush_least h (slot ∷ slots) = left h Changed slot

  -- it has left
  abbrev pub flush_one : StreamHistory X → StreamHistory X
  flush_one h = flush_least h (open_slots h)

  -- these open slots all leave, rising
  abbrev pub flush_in_turn : StreamHistory X → List ℕ → Departures X (StreamHistory X)
  flush_in_turn h [] = record { frames = []; after = h }
  flush_in_turn h (slot ∷ slots) = with_first (departed h slot) (flush_in_turn (left h Changed slot) slots)

  -- all open slots leave, rising
  abbrev pub flush_all : StreamHistory X → Departures X (StreamHistory X)
  flush_all h = flush_in_turn h (open_slots h)
