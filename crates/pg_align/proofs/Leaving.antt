-- Slots that leave, by the history and by the slots.
use Rattle.std.proofs.Common.{◌≡◌, ℕ, ◌-◌, ◌≤◌, Bool, true, false, List, [], ◌∷◌, length, map, Option, Some, None, refl, inl, inr, ◌⊎◌, sym, ◌∙◌, ap, arith}
use Rattle.std.specs.Prelude.{nat_lt, nat_le, ◌==◌, if◌then◌else◌}
use Rattle.std.proofs.lemmas.List.{length-map}
use Rattle.std.proofs.lemmas.Grind.{common_steps}
use Rattle.pg_align.specs.Histories.{Arrival, StreamHistory, Departed, Departures, with_first, is_above, open_numbers, open_slots, ticks_since, is_to_leave, departed, cause_of, left, least_to_leave, next_to_leave, leave_least, leave_one, leave_in_turn, leave_all, next_to_flush, flush_least, flush_one, flush_in_turn, flush_all, first_of_open}
use Rattle.pg_align.specs.Slots.{OpenSlot, Aligned, front_of, least_of, leaves_now, is_leaving, leaving_of, flushed_of, cause_at, with_left, without_first, flushed_first, after_flush, after_leaving, all_leaving_of, all_leaving, all_flushed_of, all_flushed}
use Rattle.pg_align.specs.declared.counts.Cause.{Cause}
use Rattle.pg_align.specs.declared.counts.Cause.TheVariants.{Changed}
use Rattle.pg_align.specs.Shown.{slot_seen, seen_of, IsSound, Shows}
use Rattle.pg_align.proofs.Numbers.{In, In-put_back, above, above-put, above-put_below, above-all, higher}
use Rattle.pg_align.proofs.Histories.{open_numbers-rising}

due_seen : (wait since : ℕ) → (wait - since == 0) ≡ nat_le wait since
due_seen wait since = grind (arith, common_steps)

module _ {X : Type 0} where
  left_step : (last : Option ℕ) (s : ℕ) (a : Arrival X) (arrivals : List (Arrival X)) (t u : Bool) → nat_lt s a.slot ≡ t → is_above last a.slot ≡ u → (t ≡ true → u ≡ true) → open_numbers (Some s) arrivals ≡ above s (open_numbers last arrivals) → open_numbers (Some s) (a ∷ arrivals) ≡ above s (open_numbers last (a ∷ arrivals))
  left_step last s a arrivals true u t v up below =
      let on : is_above last a.slot ≡ true = v ∙ up refl in
      rw (t, on, below, above-put s a.slot (open_numbers last arrivals) t)
  left_step last s a arrivals false true t v up below = rw (t, v, below, above-put_below s a.slot (open_numbers last arrivals) t)
  left_step last s a arrivals false false t v up below = rw (t, v) below

  -- once a slot has left, the open ones are those above it
  open_left : (last : Option ℕ) (s : ℕ) (arrivals : List (Arrival X)) → ((x : ℕ) → nat_lt s x ≡ true → is_above last x ≡ true) → open_numbers (Some s) arrivals ≡ above s (open_numbers last arrivals)
  open_left last s [] up = refl
  open_left last s (a ∷ arrivals) up = left_step last s a arrivals _ _ refl refl (up a.slot) (open_left last s arrivals up)

  above_case : (last : Option ℕ) (s : ℕ) (a : Arrival X) (arrivals : List (Arrival X)) → is_above last a.slot ≡ true → (In s (open_numbers last arrivals) → is_above last s ≡ true) → (a.slot ≡ s) ⊎ In s (open_numbers last arrivals) → is_above last s ≡ true
  above_case last s a arrivals u below (inl e) = rw (← e) u
  above_case last s a arrivals u below (inr i) = below i

  above_step' : (last : Option ℕ) (s : ℕ) (a : Arrival X) (arrivals : List (Arrival X)) (q : Bool) → is_above last a.slot ≡ q → (In s (open_numbers last arrivals) → is_above last s ≡ true) → In s (open_numbers last (a ∷ arrivals)) → is_above last s ≡ true
  above_step' last s a arrivals true u below i = above_case last s a arrivals u below (In-put_back a.slot s (open_numbers last arrivals) (rw u at i))
  above_step' last s a arrivals false u below i = below (rw u at i)

  -- an open slot is above the last one that left
  pub open_above : (last : Option ℕ) (s : ℕ) (arrivals : List (Arrival X)) → In s (open_numbers last arrivals) → is_above last s ≡ true
  open_above last s [] i = absurd i
  open_above last s (a ∷ arrivals) i = above_step' last s a arrivals _ refl (open_above last s arrivals) i

  -- once the least open slot has left, the others are open
  pub rest_open : (h : StreamHistory X) (cause : Cause) (slot : ℕ) (slots : List ℕ) → open_slots h ≡ slot ∷ slots → open_slots (left h cause slot) ≡ slots
  rest_open h cause slot slots e =
      let is_in : In slot (open_numbers h.last h.arrivals) = rw e (inl refl) in
      let up = open_above h.last slot h.arrivals is_in in
      let rising = rw e at (open_numbers-rising h.last h.arrivals) in
      let self : nat_lt slot slot ≡ false = grind (arith, common_steps) in
      let left = open_left h.last slot h.arrivals (λ x l. higher h.last slot x up l) in
      let rest : above slot (slot ∷ slots) ≡ slots = rw self (above-all slot slots rising.0) in
      left ∙ (ap (λ ns. above slot ns) e ∙ rest)

  left_sound : (h : StreamHistory X) (cause : Cause) (slot : ℕ) → IsSound h → IsSound (left h cause slot)
  left_sound h cause slot s = record { by_now = s.by_now; off = s.off }

  -- where the least slot has left, what is seen is the rest
  left_seen : (h : StreamHistory X) (cause : Cause) (slot : ℕ) (slots : List ℕ) → open_slots h ≡ slot ∷ slots → with_left cause (seen_of h) (slot_seen h slot) (map (slot_seen h) slots) ≡ seen_of (left h cause slot)
  left_seen h cause slot slots e = rw (rest_open h cause slot slots e)

  -- why a slot is to leave is seen as it is
  cause_seen : (h : StreamHistory X) (slot : ℕ) → cause_at h.effective (slot_seen h slot) ≡ cause_of h slot
  cause_seen h slot = rw (due_seen h.wait (ticks_since h slot))

  -- the test by the slots is that by the history
  to_leave_seen : (h : StreamHistory X) (numbers : List ℕ) → leaves_now h.window h.effective (map (slot_seen h) numbers) ≡ is_to_leave h numbers
  to_leave_seen h [] = refl
  to_leave_seen h (slot ∷ slots) = rw (length-map slots (slot_seen h), due_seen h.wait (ticks_since h slot))

  next_step : (h : StreamHistory X) (slot : ℕ) (slots : List ℕ) (b : Bool) → is_to_leave h (slot ∷ slots) ≡ b → open_slots h ≡ slot ∷ slots → leaving_of (seen_of h) ≡ least_to_leave h (slot ∷ slots)
  next_step h slot slots true t e = let test = to_leave_seen h (slot ∷ slots) ∙ t in rw (e, test, t)
  next_step h slot slots false t e = let test = to_leave_seen h (slot ∷ slots) ∙ t in rw (e, test, t)

  next_seen : (h : StreamHistory X) (numbers : List ℕ) → open_slots h ≡ numbers → leaving_of (seen_of h) ≡ least_to_leave h numbers
  next_seen h [] e = rw e
  next_seen h (slot ∷ slots) e = next_step h slot slots _ refl e

  pub Shows-next : (a : Aligned X) (h : StreamHistory X) → Shows a h → leaving_of a ≡ next_to_leave h
  Shows-next a h s = rw s.same (next_seen h (open_slots h) refl)

  after_step : (h : StreamHistory X) (slot : ℕ) (slots : List ℕ) (b : Bool) → is_to_leave h (slot ∷ slots) ≡ b → open_slots h ≡ slot ∷ slots → IsSound h → Shows (after_leaving (seen_of h)) (leave_least h (slot ∷ slots))
  after_step h slot slots true t e s =
      let test = to_leave_seen h (slot ∷ slots) ∙ t in
      rw t (record { sound = left_sound h (cause_of h slot) slot s; same = rw (e, test, cause_seen h slot) (left_seen h (cause_of h slot) slot slots e) })
  after_step h slot slots false t e s =
      let test = to_leave_seen h (slot ∷ slots) ∙ t in
      rw t (record { sound = s; same = rw (e, test) })

  after_seen : (h : StreamHistory X) (numbers : List ℕ) → open_slots h ≡ numbers → IsSound h → Shows (after_leaving (seen_of h)) (leave_least h numbers)
  after_seen h [] e s = record { sound = s; same = rw e }
  after_seen h (slot ∷ slots) e s = after_step h slot slots _ refl e s

  -- a stream that shows a history shows it once the least slot has left
  pub Shows-leaving : (a : Aligned X) (h : StreamHistory X) → Shows a h → Shows (after_leaving a) (leave_one h)
  Shows-leaving a h s = rw s.same (after_seen h (open_slots h) refl s.sound)

  -- what all that left leave behind, seen
  abbrev seen_after : Departures X (StreamHistory X) → Departures X (Aligned X)
  seen_after d = record { frames = d.frames; after = seen_of d.after }

  turn_step : (h : StreamHistory X) (slot : ℕ) (slots : List ℕ) (b : Bool) → is_to_leave h (slot ∷ slots) ≡ b → open_slots h ≡ slot ∷ slots → all_leaving_of (seen_of (left h (cause_of h slot) slot)) (map (slot_seen h) slots) ≡ seen_after (leave_in_turn (left h (cause_of h slot) slot) slots) → all_leaving_of (seen_of h) (map (slot_seen h) (slot ∷ slots)) ≡ seen_after (leave_in_turn h (slot ∷ slots))
  turn_step h slot slots true t e below =
      let test = to_leave_seen h (slot ∷ slots) ∙ t in
      rw (test, t, cause_seen h slot, left_seen h (cause_of h slot) slot slots e, below)
  turn_step h slot slots false t e below =
      let test = to_leave_seen h (slot ∷ slots) ∙ t in
      rw (test, t)

  turn_seen : (h : StreamHistory X) (numbers : List ℕ) → open_slots h ≡ numbers → all_leaving_of (seen_of h) (map (slot_seen h) numbers) ≡ seen_after (leave_in_turn h numbers)
  turn_seen h [] e = refl
  turn_seen h (slot ∷ slots) e = turn_step h slot slots _ refl e (turn_seen (left h (cause_of h slot) slot) slots (rest_open h (cause_of h slot) slot slots e))

  sound_step : (h : StreamHistory X) (slot : ℕ) (slots : List ℕ) (b : Bool) → is_to_leave h (slot ∷ slots) ≡ b → IsSound h → IsSound (leave_in_turn (left h (cause_of h slot) slot) slots).after → IsSound (leave_in_turn h (slot ∷ slots)).after
  sound_step h slot slots true t s below = rw t below
  sound_step h slot slots false t s below = rw t s

  turn_sound : (h : StreamHistory X) (numbers : List ℕ) → IsSound h → IsSound (leave_in_turn h numbers).after
  turn_sound h [] s = s
  turn_sound h (slot ∷ slots) s = sound_step h slot slots _ refl s (turn_sound (left h (cause_of h slot) slot) slots (left_sound h (cause_of h slot) slot s))

  all_seen : (a : Aligned X) (h : StreamHistory X) → Shows a h → all_leaving a ≡ seen_after (leave_all h)
  all_seen a h s = rw s.same (turn_seen h (open_slots h) refl)

  pub Shows-frames : (a : Aligned X) (h : StreamHistory X) → Shows a h → (all_leaving a).frames ≡ (leave_all h).frames
  Shows-frames a h s = rw (all_seen a h s)

  pub Shows-end : (a : Aligned X) (h : StreamHistory X) → Shows a h → Shows (all_leaving a).after (leave_all h).after
  Shows-end a h s = record { sound = turn_sound h (open_slots h) s.sound; same = rw (all_seen a h s) }

  flush_next_seen : (h : StreamHistory X) (numbers : List ℕ) → open_slots h ≡ numbers → flushed_of (seen_of h) ≡ first_of_open h numbers
  flush_next_seen h [] e = rw e
  flush_next_seen h (slot ∷ slots) e = rw e

  pub Shows-next_flushed : (a : Aligned X) (h : StreamHistory X) → Shows a h → flushed_of a ≡ next_to_flush h
  Shows-next_flushed a h s = rw s.same (flush_next_seen h (open_slots h) refl)

  flushed_seen : (h : StreamHistory X) (numbers : List ℕ) → open_slots h ≡ numbers → IsSound h → Shows (after_flush (seen_of h)) (flush_least h numbers)
  flushed_seen h [] e s = record { sound = s; same = rw e }
  flushed_seen h (slot ∷ slots) e s = record { sound = left_sound h Changed slot s; same = rw e (left_seen h Changed slot slots e) }

  pub Shows-flushing : (a : Aligned X) (h : StreamHistory X) → Shows a h → Shows (after_flush a) (flush_one h)
  Shows-flushing a h s = rw s.same (flushed_seen h (open_slots h) refl s.sound)

  flush_turn_seen : (h : StreamHistory X) (numbers : List ℕ) → open_slots h ≡ numbers → all_flushed_of (seen_of h) (map (slot_seen h) numbers) ≡ seen_after (flush_in_turn h numbers)
  flush_turn_seen h [] e = refl
  flush_turn_seen h (slot ∷ slots) e = rw (left_seen h Changed slot slots e, flush_turn_seen (left h Changed slot) slots (rest_open h Changed slot slots e))

  flush_turn_sound : (h : StreamHistory X) (numbers : List ℕ) → IsSound h → IsSound (flush_in_turn h numbers).after
  flush_turn_sound h [] s = s
  flush_turn_sound h (slot ∷ slots) s = flush_turn_sound (left h Changed slot) slots (left_sound h Changed slot s)

  flush_seen : (a : Aligned X) (h : StreamHistory X) → Shows a h → all_flushed a ≡ seen_after (flush_all h)
  flush_seen a h s = rw s.same (flush_turn_seen h (open_slots h) refl)

  pub Shows-flushed_frames : (a : Aligned X) (h : StreamHistory X) → Shows a h → (all_flushed a).frames ≡ (flush_all h).frames
  Shows-flushed_frames a h s = rw (flush_seen a h s)

  pub Shows-flushed_end : (a : Aligned X) (h : StreamHistory X) → Shows a h → Shows (all_flushed a).after (flush_all h).after
  Shows-flushed_end a h s = record { sound = flush_turn_sound h (open_slots h) s.sound; same = rw (flush_seen a h s) }

  repeats_step : (h : StreamHistory X) (slot : ℕ) (slots : List ℕ) (first : Departed X) (b : Bool) → is_to_leave h (slot ∷ slots) ≡ b → open_slots h ≡ slot ∷ slots → least_to_leave h (slot ∷ slots) ≡ Some first → leave_in_turn h (slot ∷ slots) ≡ with_first first (leave_all (leave_least h (slot ∷ slots)))
  repeats_step h slot slots first true t e f =
      let same : departed h slot ≡ first = let g = rw t at f in cc in
      rw (t, ← same, rest_open h (cause_of h slot) slot slots e) refl
  repeats_step h slot slots first false t e f = absurd (let g = rw t at f in cc)

  repeats_open : (h : StreamHistory X) (numbers : List ℕ) (first : Departed X) → open_slots h ≡ numbers → least_to_leave h numbers ≡ Some first → leave_in_turn h numbers ≡ with_first first (leave_all (leave_least h numbers))
  repeats_open h [] first e f = absurd cc
  repeats_open h (slot ∷ slots) first e f = repeats_step h slot slots first _ refl e f

  -- all that are to leave: the next one, and all that then are
  pub leave_all-repeats : (h : StreamHistory X) (first : Departed X) → next_to_leave h ≡ Some first → leave_all h ≡ with_first first (leave_all (leave_one h))
  leave_all-repeats h first f = repeats_open h (open_slots h) first refl f

  none_step : (h : StreamHistory X) (slot : ℕ) (slots : List ℕ) (b : Bool) → is_to_leave h (slot ∷ slots) ≡ b → least_to_leave h (slot ∷ slots) ≡ None → leave_in_turn h (slot ∷ slots) ≡ record { frames = []; after = h }
  none_step h slot slots true t f = absurd (let g = rw t at f in cc)
  none_step h slot slots false t f = rw t

  none_open : (h : StreamHistory X) (numbers : List ℕ) → least_to_leave h numbers ≡ None → leave_in_turn h numbers ≡ record { frames = []; after = h }
  none_open h [] f = refl
  none_open h (slot ∷ slots) f = none_step h slot slots _ refl f

  pub leave_all-none : (h : StreamHistory X) → next_to_leave h ≡ None → leave_all h ≡ record { frames = []; after = h }
  leave_all-none h f = none_open h (open_slots h) f

  ends_step : (h : StreamHistory X) (slot : ℕ) (slots : List ℕ) (b : Bool) → is_to_leave h (slot ∷ slots) ≡ b → open_slots h ≡ slot ∷ slots → next_to_leave (leave_in_turn (left h (cause_of h slot) slot) slots).after ≡ None → next_to_leave (leave_in_turn h (slot ∷ slots)).after ≡ None
  ends_step h slot slots true t e below = rw t below
  ends_step h slot slots false t e below = rw (t, e, t)

  ends_open : (h : StreamHistory X) (numbers : List ℕ) → open_slots h ≡ numbers → next_to_leave (leave_in_turn h numbers).after ≡ None
  ends_open h [] e = rw e
  ends_open h (slot ∷ slots) e = ends_step h slot slots _ refl e (ends_open (left h (cause_of h slot) slot) slots (rest_open h (cause_of h slot) slot slots e))

  -- then none is to leave
  pub leave_all-ends : (h : StreamHistory X) → next_to_leave (leave_all h).after ≡ None
  leave_all-ends h = ends_open h (open_slots h) refl

  flushed_open : (h : StreamHistory X) (numbers : List ℕ) (first : Departed X) → open_slots h ≡ numbers → first_of_open h numbers ≡ Some first → flush_in_turn h numbers ≡ with_first first (flush_all (flush_least h numbers))
  flushed_open h [] first e f = absurd cc
  flushed_open h (slot ∷ slots) first e f =
      let same : departed h slot ≡ first = cc in
      rw (← same, rest_open h Changed slot slots e) refl

  pub flush_all-repeats : (h : StreamHistory X) (first : Departed X) → next_to_flush h ≡ Some first → flush_all h ≡ with_first first (flush_all (flush_one h))
  flush_all-repeats h first f = flushed_open h (open_slots h) first refl f

  none_after : (h : StreamHistory X) (numbers : List ℕ) → open_slots h ≡ numbers → open_slots (flush_in_turn h numbers).after ≡ []
  none_after h [] e = e
  none_after h (slot ∷ slots) e = none_after (left h Changed slot) slots (rest_open h Changed slot slots e)

  -- after a flush no slot is open
  pub flush_all-none : (h : StreamHistory X) → open_slots (flush_all h).after ≡ []
  flush_all-none h = none_after h (open_slots h) refl

  -- The same by the slots.
  leaves_first : (a : Aligned X) (slots : List (OpenSlot X)) (first : Departed X) (b : Bool) → leaves_now a.window a.effective slots ≡ b → (if leaves_now a.window a.effective slots then least_of slots else None) ≡ Some first → all_leaving_of a slots ≡ with_first first (all_leaving_of (without_first a slots) (without_first a slots).slots)
  leaves_first a [] first b t e = absurd cc
  leaves_first a (least ∷ slots) first true t e =
      let same : front_of least ≡ first = let g = rw t at e in cc in
      rw (t, ← same) refl
  leaves_first a (least ∷ slots) first false t e = absurd (let g = rw t at e in cc)

  after_first : (a : Aligned X) (first : Departed X) (b : Bool) → is_leaving a ≡ b → leaving_of a ≡ Some first → after_leaving a ≡ without_first a a.slots
  after_first a first true t e = ap (λ b. if b then without_first a a.slots else a) t
  after_first a first false t e = absurd (let f : (if is_leaving a then least_of a.slots else None) ≡ None = ap (λ b. if b then least_of a.slots else None) t in cc)

  pub all_leaving-first : (a : Aligned X) (first : Departed X) → leaving_of a ≡ Some first → all_leaving a ≡ with_first first (all_leaving (after_leaving a))
  all_leaving-first a first e =
      let after = after_first a first _ refl e in
      leaves_first a a.slots first _ refl e ∙ ap (λ x. with_first first (all_leaving x)) (sym after)

  stays : (a : Aligned X) (slots : List (OpenSlot X)) (b : Bool) → leaves_now a.window a.effective slots ≡ b → (if leaves_now a.window a.effective slots then least_of slots else None) ≡ None → all_leaving_of a slots ≡ record { frames = []; after = a }
  stays a [] b t e = refl
  stays a (least ∷ slots) true t e = absurd (let g = rw t at e in cc)
  stays a (least ∷ slots) false t e = rw t

  pub all_leaving-none : (a : Aligned X) → leaving_of a ≡ None → all_leaving a ≡ record { frames = []; after = a }
  all_leaving-none a e = stays a a.slots _ refl e

  flushes_first : (a : Aligned X) (slots : List (OpenSlot X)) (first : Departed X) → least_of slots ≡ Some first → all_flushed_of a slots ≡ with_first first (all_flushed_of (flushed_first a slots) (flushed_first a slots).slots)
  flushes_first a [] first e = absurd cc
  flushes_first a (least ∷ slots) first e = let same : front_of least ≡ first = cc in rw (← same) refl

  pub all_flushed-first : (a : Aligned X) (first : Departed X) → flushed_of a ≡ Some first → all_flushed a ≡ with_first first (all_flushed (after_flush a))
  all_flushed-first a first e = flushes_first a a.slots first e

  flushes_none : (a : Aligned X) (slots : List (OpenSlot X)) → least_of slots ≡ None → all_flushed_of a slots ≡ record { frames = []; after = a }
  flushes_none a [] e = refl
  flushes_none a (least ∷ slots) e = absurd cc

  pub all_flushed-none : (a : Aligned X) → flushed_of a ≡ None → all_flushed a ≡ record { frames = []; after = a }
  all_flushed-none a e = flushes_none a a.slots e

  few_step : (window : ℕ) (effective : List Bool) (slots : List (OpenSlot X)) → leaves_now window effective slots ≡ false → length slots ≤ window
  few_step window effective [] t = omega arith
  few_step window effective (least ∷ slots) t = grind (arith, common_steps)

  few_left_step : (a : Aligned X) (least : OpenSlot X) (slots : List (OpenSlot X)) (b : Bool) → leaves_now a.window a.effective (least ∷ slots) ≡ b → a.slots ≡ least ∷ slots → length (all_leaving_of (without_first a (least ∷ slots)) slots).after.slots ≤ a.window → length (all_leaving_of a (least ∷ slots)).after.slots ≤ a.window
  few_left_step a least slots true t e below = rw t below
  few_left_step a least slots false t e below = rw (t, e) (few_step a.window a.effective (least ∷ slots) t)

  few_left : (a : Aligned X) (slots : List (OpenSlot X)) → a.slots ≡ slots → length (all_leaving_of a slots).after.slots ≤ a.window
  few_left a [] e = rw e (omega arith)
  few_left a (least ∷ slots) e = few_left_step a least slots _ refl e (few_left (without_first a (least ∷ slots)) slots refl)

  -- what does not leave fits the window
  pub all_leaving-few : (a : Aligned X) → length (all_leaving a).after.slots ≤ a.window
  all_leaving-few a = few_left a a.slots refl

  none_left : (a : Aligned X) (slots : List (OpenSlot X)) → a.slots ≡ slots → (all_flushed_of a slots).after.slots ≡ []
  none_left a [] e = e
  none_left a (least ∷ slots) e = none_left (flushed_first a (least ∷ slots)) slots refl

  -- a flush leaves no slot
  pub all_flushed-none_open : (a : Aligned X) → (all_flushed a).after.slots ≡ []
  all_flushed-none_open a = none_left a a.slots refl

  -- as many slots are open as are seen
  pub Shows-count : (a : Aligned X) (h : StreamHistory X) → Shows a h → length a.slots ≡ length (open_slots h)
  Shows-count a h s = rw s.same (length-map (open_slots h) (slot_seen h))
