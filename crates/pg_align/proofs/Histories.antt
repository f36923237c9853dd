-- Arrivals, ticks and switches, by the history and by the slots.
use Rattle.std.proofs.Common.{◌≡◌, ◌≢◌, ℕ, zero, suc, ◌+◌, ◌-◌, ◌<◌, ◌≤◌, Bool, true, false, ◌&&◌, List, [], ◌∷◌, length, map, set, get_or, replicate, Option, Some, None, is_some, refl, inl, inr, sym, ◌∙◌, ap, arith}
use Rattle.std.specs.Prelude.{nat_lt, ◌==◌, unwrap_or, IsTrue, if◌then◌else◌}
use Rattle.std.proofs.lemmas.Grind.{common_steps}
use Rattle.pg_align.specs.Histories.{Arrival, StreamHistory, is_above, put_number, arrived, first_tick, open_numbers, open_slots, parts_from, keep_arrival, take_arrival, answer_to, ticked, started, discarded, reshaped, opening}
use Rattle.pg_align.specs.Slots.{OpenSlot, Aligned, put_into, part_at, with_part, fresh_slot, with_arrival, answer_at, one_tick_less, with_tick, with_start, with_none, with_shape, none_open}
use Rattle.pg_align.specs.Shown.{slot_seen, seen_of, CameBy, IsSound, Shows}
use Rattle.pg_align.proofs.Numbers.{Rising, NotIn, In, NotIn-above, In-above, In-put_here, In-put, NotIn-put, Rising-put}

bound_here : (a t ticks : ℕ) (u : Option ℕ) → a ≤ ticks → ((t : ℕ) → u ≡ Some t → t ≤ ticks) → Some (unwrap_or u a) ≡ Some t → t ≤ ticks
bound_here a t ticks None l below e = let same : a ≡ t = cc in rw (← same) l
bound_here a t ticks (Some u) l below e = let same : u ≡ t = cc in rw (← same) (below u refl)

-- no number is among a list's and is not
both : (n : ℕ) (ns : List ℕ) → In n ns → NotIn n ns → ⊥
both n [] i o = i
both n (m ∷ ms) (inl e) o = o.0 e
both n (m ∷ ms) (inr i) o = both n ms i o.1

module _ {X : Type 0} where
  none_step : (slot : ℕ) (a : Arrival X) (arrivals : List (Arrival X)) (p : ℕ) (b : Bool) → (a.slot == slot) ≡ b → first_tick (a ∷ arrivals) slot ≡ None → (first_tick arrivals slot ≡ None → arrived arrivals slot p ≡ None) → arrived (a ∷ arrivals) slot p ≡ None
  none_step slot a arrivals p true t e below = absurd (let f = rw t at e in cc)
  none_step slot a arrivals p false t e below = rw t (below (rw t at e))

  -- nothing came for this slot yet
  none_arrived : (slot : ℕ) (arrivals : List (Arrival X)) (p : ℕ) → first_tick arrivals slot ≡ None → arrived arrivals slot p ≡ None
  none_arrived slot [] p e = refl
  none_arrived slot (a ∷ arrivals) p e = none_step slot a arrivals p _ refl e (none_arrived slot arrivals p)

module _ {X : Type 0} (h : StreamHistory X) (slot place : ℕ) (part : X) where
  abbrev next : StreamHistory X
  next = keep_arrival h slot place part

  -- another slot is seen as before
  parts_other : (other from n : ℕ) → slot ≢ other → parts_from next.arrivals other from n ≡ parts_from h.arrivals other from n
  parts_other other from zero ne = refl
  parts_other other from (suc n) ne =
      let test : (slot == other) ≡ false = grind (arith, common_steps) in
      rw test (ap (λ rest. arrived h.arrivals other from ∷ rest) (parts_other other (from + 1) n ne))

  seen_other : (other : ℕ) → slot ≢ other → slot_seen next other ≡ slot_seen h other
  seen_other other ne =
      let test : (slot == other) ≡ false = grind (arith, common_steps) in
      rw (parts_other other 0 (length h.effective) ne, test)

  -- places above the part's are seen as before
  parts_past : (from n : ℕ) → place < from → parts_from next.arrivals slot from n ≡ parts_from h.arrivals slot from n
  parts_past from zero p = refl
  parts_past from (suc n) p =
      let test : (slot == slot && place == from) ≡ false = grind (arith, common_steps) in
      rw test (ap (λ rest. arrived h.arrivals slot from ∷ rest) (parts_past (from + 1) n (omega arith)))

  -- this slot takes the part
  parts_here : (from n k : ℕ) → from + k ≡ place → k < n → parts_from next.arrivals slot from n ≡ set (parts_from h.arrivals slot from n) k (Some part)
  parts_here from zero k e l = absurd (omega arith)
  parts_here from (suc n) zero e l =
      let test : (slot == slot && place == from) ≡ true = grind (arith, common_steps) in
      rw test (ap (λ rest. Some part ∷ rest) (parts_past (from + 1) n (omega arith)))
  parts_here from (suc n) (suc k) e l =
      let test : (slot == slot && place == from) ≡ false = grind (arith, common_steps) in
      rw test (ap (λ rest. arrived h.arrivals slot from ∷ rest) (parts_here (from + 1) n k (omega arith) (omega arith)))

  same_slot : (slot == slot) ≡ true
  same_slot = grind (arith, common_steps)

  none_parts : (from n : ℕ) → first_tick h.arrivals slot ≡ None → parts_from h.arrivals slot from n ≡ replicate n None
  none_parts from zero e = refl
  none_parts from (suc n) e = rw (none_arrived slot h.arrivals from e) (ap (λ rest. None ∷ rest) (none_parts (from + 1) n e))

  seen_fresh : place < length h.effective → first_tick h.arrivals slot ≡ None → slot_seen next slot ≡ fresh_slot slot h.wait (length h.effective) place part
  seen_fresh l e =
      let parts = parts_here 0 (length h.effective) place (omega arith) l in
      let ticks : h.wait - (h.ticks - h.ticks) ≡ h.wait = omega arith in
      rw (same_slot, e, parts, none_parts 0 (length h.effective) e, ticks)

  seen_more : (t : ℕ) → place < length h.effective → first_tick h.arrivals slot ≡ Some t → slot_seen next slot ≡ put_into (slot_seen h slot) place part
  seen_more t l e =
      let parts = parts_here 0 (length h.effective) place (omega arith) l in
      rw (same_slot, e, parts)

module _ {X : Type 0} where
  away_step : (last : Option ℕ) (slot : ℕ) (a : Arrival X) (arrivals : List (Arrival X)) (b q : Bool) → (a.slot == slot) ≡ b → is_above last a.slot ≡ q → first_tick (a ∷ arrivals) slot ≡ None → (first_tick arrivals slot ≡ None → NotIn slot (open_numbers last arrivals)) → NotIn slot (open_numbers last (a ∷ arrivals))
  away_step last slot a arrivals true q t u e below = absurd (let f = rw t at e in cc)
  away_step last slot a arrivals false true t u e below =
      let ne : a.slot ≢ slot = grind (arith, common_steps) in
      rw u (NotIn-put slot a.slot (open_numbers last arrivals) ne (below (rw t at e)))
  away_step last slot a arrivals false false t u e below = rw u (below (rw t at e))

  -- a slot that nothing came for is not open
  pub away : (last : Option ℕ) (slot : ℕ) (arrivals : List (Arrival X)) → first_tick arrivals slot ≡ None → NotIn slot (open_numbers last arrivals)
  away last slot [] e = tt
  away last slot (a ∷ arrivals) e = away_step last slot a arrivals _ _ refl refl e (away last slot arrivals)

  here_step : (last : Option ℕ) (slot t : ℕ) (a : Arrival X) (arrivals : List (Arrival X)) (b q : Bool) → (a.slot == slot) ≡ b → is_above last a.slot ≡ q → is_above last slot ≡ true → first_tick (a ∷ arrivals) slot ≡ Some t → (first_tick arrivals slot ≡ Some t → In slot (open_numbers last arrivals)) → In slot (open_numbers last (a ∷ arrivals))
  here_step last slot t a arrivals true q s u up e below =
      let same : a.slot ≡ slot = grind (arith, common_steps) in
      rw (same, up) (In-put_here slot (open_numbers last arrivals))
  here_step last slot t a arrivals false true s u up e below = rw u (In-put a.slot slot (open_numbers last arrivals) (below (rw s at e)))
  here_step last slot t a arrivals false false s u up e below = rw u (below (rw s at e))

  -- one that something came for is
  pub is_here : (last : Option ℕ) (slot t : ℕ) (arrivals : List (Arrival X)) → is_above last slot ≡ true → first_tick arrivals slot ≡ Some t → In slot (open_numbers last arrivals)
  is_here last slot t [] up e = absurd cc
  is_here last slot t (a ∷ arrivals) up e = here_step last slot t a arrivals _ _ refl refl up e (is_here last slot t arrivals up)

  rising_next : (last : Option ℕ) (a : Arrival X) (arrivals : List (Arrival X)) (q : Bool) → is_above last a.slot ≡ q → Rising (open_numbers last arrivals) → Rising (open_numbers last (a ∷ arrivals))
  rising_next last a arrivals true u below = rw u (Rising-put a.slot (open_numbers last arrivals) below)
  rising_next last a arrivals false u below = rw u below

  pub open_numbers-rising : (last : Option ℕ) (arrivals : List (Arrival X)) → Rising (open_numbers last arrivals)
  open_numbers-rising last [] = tt
  open_numbers-rising last (a ∷ arrivals) = rising_next last a arrivals _ refl (open_numbers-rising last arrivals)

  module _ (f g : ℕ → OpenSlot X) (slot : ℕ) (fresh : OpenSlot X) (place : ℕ) (part : X) (is_slot : fresh.slot ≡ slot) (of_f : (n : ℕ) → (f n).slot ≡ n) (others : (n : ℕ) → slot ≢ n → g n ≡ f n) where
    map_others : (ns : List ℕ) → NotIn slot ns → map g ns ≡ map f ns
    map_others [] h = refl
    map_others (n ∷ ns) h = rw (others n (λ e. h.0 (sym e)), map_others ns h.1)

    fresh_step : (n : ℕ) (ns : List ℕ) (b : Bool) → nat_lt slot n ≡ b → g slot ≡ fresh → NotIn slot (n ∷ ns) → map g (put_number slot ns) ≡ with_part fresh place part (map f ns) → map g (put_number slot (n ∷ ns)) ≡ with_part fresh place part (map f (n ∷ ns))
    fresh_step n ns true e new h below =
        let e' : nat_lt fresh.slot (f n).slot ≡ true = rw (is_slot, of_f n) e in
        rw (e, e', new, others n (λ s. h.0 (sym s)), map_others ns h.1)
    fresh_step n ns false e new h below =
        let ne : (n == slot) ≡ false = grind (arith, common_steps, h.0) in
        let e' : nat_lt fresh.slot (f n).slot ≡ false = rw (is_slot, of_f n) e in
        let ne' : ((f n).slot == fresh.slot) ≡ false = rw (is_slot, of_f n) ne in
        rw (e, ne, e', ne', others n (λ s. h.0 (sym s)), below)

    -- the slot opens
    map_fresh : (ns : List ℕ) → g slot ≡ fresh → NotIn slot ns → map g (put_number slot ns) ≡ with_part fresh place part (map f ns)
    map_fresh [] new h = rw new
    map_fresh (n ∷ ns) new h = fresh_step n ns _ refl new h (map_fresh ns new h.1)

    more_step : (n : ℕ) (ns : List ℕ) (q : Bool) → (n == slot) ≡ q → g slot ≡ put_into (f slot) place part → Rising (n ∷ ns) → In slot (n ∷ ns) → (In slot ns → map g (put_number slot ns) ≡ with_part fresh place part (map f ns)) → map g (put_number slot (n ∷ ns)) ≡ with_part fresh place part (map f (n ∷ ns))
    more_step n ns true q more r i below =
        let same : n ≡ slot = grind (arith, common_steps) in
        let e : nat_lt slot slot ≡ false = grind (arith, common_steps) in
        let s : (slot == slot) ≡ true = grind (arith, common_steps) in
        let rest = map_others ns (NotIn-above slot ns (rw same at r.0)) in
        let e' : nat_lt fresh.slot (f slot).slot ≡ false = rw (is_slot, of_f slot) e in
        let s' : ((f slot).slot == fresh.slot) ≡ true = rw (is_slot, of_f slot) s in
        rw (same, e, s, e', s', more, rest)
    more_step n ns false q more r (inl s) below = grind (arith, common_steps)
    more_step n ns false q more r (inr i) below =
        let l : n < slot = In-above n slot ns r.0 i in
        let e : nat_lt slot n ≡ false = grind (arith, common_steps) in
        let ne : slot ≢ n = λ s. absurd (omega (arith, l, s)) in
        let e' : nat_lt fresh.slot (f n).slot ≡ false = rw (is_slot, of_f n) e in
        let q' : ((f n).slot == fresh.slot) ≡ false = rw (is_slot, of_f n) q in
        rw (e, q, e', q', others n ne, below i)

    -- the slot is open, and takes the part
    map_more : (ns : List ℕ) → g slot ≡ put_into (f slot) place part → Rising ns → In slot ns → map g (put_number slot ns) ≡ with_part fresh place part (map f ns)
    map_more [] more r i = absurd i
    map_more (n ∷ ns) more r i = more_step n ns _ refl more r i (map_more ns more r.1)

  slots_step : (h : StreamHistory X) (slot place : ℕ) (part : X) (t : Option ℕ) → first_tick h.arrivals slot ≡ t → is_above h.last slot ≡ true → place < length h.effective → map (slot_seen (keep_arrival h slot place part)) (put_number slot (open_numbers h.last h.arrivals)) ≡ with_part (fresh_slot slot h.wait (length h.effective) place part) place part (map (slot_seen h) (open_numbers h.last h.arrivals))
  slots_step h slot place part None e up l =
      map_fresh (slot_seen h) (slot_seen (keep_arrival h slot place part)) slot _ place part refl (λ n. refl) (seen_other h slot place part) (open_numbers h.last h.arrivals) (seen_fresh h slot place part l e) (away h.last slot h.arrivals e)
  slots_step h slot place part (Some t) e up l =
      map_more (slot_seen h) (slot_seen (keep_arrival h slot place part)) slot _ place part refl (λ n. refl) (seen_other h slot place part) (open_numbers h.last h.arrivals) (seen_more h slot place part t l e) (open_numbers-rising h.last h.arrivals) (is_here h.last slot t h.arrivals up e)

  arrived_at : (arrivals : List (Arrival X)) (slot from n k : ℕ) → k < n → get_or (parts_from arrivals slot from n) k None ≡ arrived arrivals slot (from + k)
  arrived_at arrivals slot from zero k l = absurd (omega arith)
  arrived_at arrivals slot from (suc n) zero l = let e : from + 0 ≡ from = omega arith in rw e
  arrived_at arrivals slot from (suc n) (suc k) l =
      let e : from + suc k ≡ (from + 1) + k = omega arith in
      rw e (arrived_at arrivals slot (from + 1) n k (omega arith))

  module _ (f : ℕ → OpenSlot X) (slot place : ℕ) (of_f : (n : ℕ) → (f n).slot ≡ n) where
    away_part_step : (n : ℕ) (ns : List ℕ) (b : Bool) → nat_lt slot (f n).slot ≡ b → NotIn slot (n ∷ ns) → part_at (map f ns) slot place ≡ None → part_at (map f (n ∷ ns)) slot place ≡ None
    away_part_step n ns true e h below = rw e
    away_part_step n ns false e h below =
        let other : (n == slot) ≡ false = grind (arith, common_steps, h.0) in
        let other' : ((f n).slot == slot) ≡ false = rw (of_f n) other in
        rw (e, other', below)

    -- a slot that is not among these has no part
    part_away : (ns : List ℕ) → NotIn slot ns → part_at (map f ns) slot place ≡ None
    part_away [] h = refl
    part_away (n ∷ ns) h = away_part_step n ns _ refl h (part_away ns h.1)

    here_part_step : (n : ℕ) (ns : List ℕ) (q : Bool) → (n == slot) ≡ q → Rising (n ∷ ns) → In slot (n ∷ ns) → (In slot ns → part_at (map f ns) slot place ≡ get_or (f slot).parts place None) → part_at (map f (n ∷ ns)) slot place ≡ get_or (f slot).parts place None
    here_part_step n ns true q r i below =
        let same : n ≡ slot = grind (arith, common_steps) in
        let e : nat_lt slot slot ≡ false = grind (arith, common_steps) in
        let s : (slot == slot) ≡ true = grind (arith, common_steps) in
        let e' : nat_lt slot (f slot).slot ≡ false = rw (of_f slot) e in
        let s' : ((f slot).slot == slot) ≡ true = rw (of_f slot) s in
        rw (same, e', s')
    here_part_step n ns false q r (inl s) below = grind (arith, common_steps)
    here_part_step n ns false q r (inr i) below =
        let l : n < slot = In-above n slot ns r.0 i in
        let e : nat_lt slot n ≡ false = grind (arith, common_steps) in
        let e' : nat_lt slot (f n).slot ≡ false = rw (of_f n) e in
        let q' : ((f n).slot == slot) ≡ false = rw (of_f n) q in
        rw (e', q', below i)

    -- one that is among them has its own
    part_here : (ns : List ℕ) → Rising ns → In slot ns → part_at (map f ns) slot place ≡ get_or (f slot).parts place None
    part_here [] r i = absurd i
    part_here (n ∷ ns) r i = here_part_step n ns _ refl r i (part_here ns r.1)

  part_step : (h : StreamHistory X) (slot place : ℕ) (t : Option ℕ) → first_tick h.arrivals slot ≡ t → is_above h.last slot ≡ true → place < length h.effective → part_at (map (slot_seen h) (open_slots h)) slot place ≡ arrived h.arrivals slot place
  part_step h slot place None e up l =
      let none = part_away (slot_seen h) slot place (λ n. refl) (open_slots h) (away h.last slot h.arrivals e) in
      none ∙ sym (none_arrived slot h.arrivals place e)
  part_step h slot place (Some t) e up l =
      let here = part_here (slot_seen h) slot place (λ n. refl) (open_slots h) (open_numbers-rising h.last h.arrivals) (is_here h.last slot t h.arrivals up e) in
      let from : 0 + place ≡ place = omega arith in
      here ∙ (rw from at (arrived_at h.arrivals slot 0 (length h.effective) place l))

  -- the part of a slot that did not leave is what came for it
  pub part_at-seen : (h : StreamHistory X) (slot place : ℕ) → is_above h.last slot ≡ true → place < length h.effective → part_at (map (slot_seen h) (open_slots h)) slot place ≡ arrived h.arrivals slot place
  part_at-seen h slot place up l = part_step h slot place _ refl up l

  keep_sound : (h : StreamHistory X) (slot place : ℕ) (part : X) → IsSound h → h.is_on ≡ true → IsSound (keep_arrival h slot place part)
  keep_sound h slot place part s on = record { by_now = (omega arith, s.by_now); off = λ e. absurd (let f : true ≡ false = sym on ∙ e in cc) }

  abbrev Takes : Aligned X → StreamHistory X → ℕ → ℕ → X → Type 0
  Takes a h slot place part = (answer_at a slot place ≡ answer_to h slot place) × Shows (with_arrival a slot place part) (take_arrival h slot place part)

  take_twice : (h : StreamHistory X) (slot place : ℕ) (part : X) (t : Bool) → is_some (arrived h.arrivals slot place) ≡ t → IsSound h → is_above h.last slot ≡ true → h.is_on ≡ true → place < length h.effective → Takes (seen_of h) h slot place part
  take_twice h slot place part true t s up on l =
      let same = part_at-seen h slot place up l in
      rw (up, same, t) (refl, record { sound = s; same = refl })
  take_twice h slot place part false t s up on l =
      let same = part_at-seen h slot place up l in
      let slots = slots_step h slot place part _ refl up l in
      rw (up, same, t) (refl, record { sound = keep_sound h slot place part s on; same = rw (up, slots) })

  take_late : (h : StreamHistory X) (slot place : ℕ) (part : X) (u : Bool) → is_above h.last slot ≡ u → IsSound h → h.is_on ≡ true → place < length h.effective → Takes (seen_of h) h slot place part
  take_late h slot place part true up s on l = take_twice h slot place part _ refl s up on l
  take_late h slot place part false up s on l = rw up (refl, record { sound = record { by_now = s.by_now; off = s.off }; same = refl })

  -- whatever history a stream shows, what it makes of an arrival is that history's
  pub Shows-arrival : (a : Aligned X) (h : StreamHistory X) (slot place : ℕ) (part : X) → Shows a h → IsTrue a.is_on → place < length a.effective → (answer_at a slot place ≡ answer_to h slot place) × Shows (with_arrival a slot place part) (take_arrival h slot place part)
  Shows-arrival a h slot place part s on l =
      rw s.same (take_late h slot place part _ refl s.sound (rw s.same at on) (rw s.same at l))

  bound_step : (a : Arrival X) (arrivals : List (Arrival X)) (slot t ticks : ℕ) (b : Bool) → (a.slot == slot) ≡ b → a.tick ≤ ticks → ((t : ℕ) → first_tick arrivals slot ≡ Some t → t ≤ ticks) → first_tick (a ∷ arrivals) slot ≡ Some t → t ≤ ticks
  bound_step a arrivals slot t ticks true q l below e = bound_here a.tick t ticks (first_tick arrivals slot) l below (rw q at e)
  bound_step a arrivals slot t ticks false q l below e = below t (rw q at e)

  -- the first arrival for a slot came by now
  first_by : (arrivals : List (Arrival X)) (slot t ticks : ℕ) → CameBy ticks arrivals → first_tick arrivals slot ≡ Some t → t ≤ ticks
  first_by [] slot t ticks c e = absurd cc
  first_by (a ∷ arrivals) slot t ticks c e = bound_step a arrivals slot t ticks _ refl c.0 (λ u. first_by arrivals slot u ticks c.1) e

  ticked_slot : (h : StreamHistory X) (n : ℕ) (t : Option ℕ) → first_tick h.arrivals n ≡ t → IsSound h → In n (open_slots h) → slot_seen (ticked h) n ≡ one_tick_less (slot_seen h n)
  ticked_slot h n None e s i = absurd (both n (open_slots h) i (away h.last n h.arrivals e))
  ticked_slot h n (Some t) e s i =
      let by : t ≤ h.ticks = first_by h.arrivals n t h.ticks s.by_now e in
      let less : h.wait - (h.ticks + 1 - t) ≡ h.wait - (h.ticks - t) - 1 = omega (arith, by) in
      rw (e, less)

  ticked_slots : (h : StreamHistory X) (ns : List ℕ) → ((n : ℕ) → In n ns → slot_seen (ticked h) n ≡ one_tick_less (slot_seen h n)) → map (slot_seen (ticked h)) ns ≡ map one_tick_less (map (slot_seen h) ns)
  ticked_slots h [] each = refl
  ticked_slots h (n ∷ ns) each = rw (each n (inl refl), ticked_slots h ns (λ m i. each m (inr i)))

  later : (arrivals : List (Arrival X)) (ticks : ℕ) → CameBy ticks arrivals → CameBy (ticks + 1) arrivals
  later [] ticks c = tt
  later (a ∷ arrivals) ticks c = (omega (arith, c.0), later arrivals ticks c.1)

  -- after a tick a stream shows the history with this tick
  pub Shows-tick : (a : Aligned X) (h : StreamHistory X) → Shows a h → Shows (with_tick a) (ticked h)
  Shows-tick a h s =
      let slots = ticked_slots h (open_slots h) (λ n i. ticked_slot h n _ refl s.sound i) in
      record { sound = record { by_now = later h.arrivals h.ticks s.sound.by_now; off = s.sound.off }; same = rw (s.same, slots) }

  start_step : (h : StreamHistory X) (b : Bool) → h.is_on ≡ b → IsSound h → Shows (with_start (seen_of h)) (started h)
  start_step h true on s =
      let seen : with_start (seen_of h) ≡ seen_of h = ap (λ b. if b then seen_of h else record (seen_of h) { is_on = true; last = None }) on in
      let same : started h ≡ h = ap (λ b. if b then h else record h { is_on = true; last = None; arrivals = [] }) on in
      rw (seen, same) (record { sound = s; same = refl })
  start_step h false on s =
      let off : h.arrivals ≡ [] = s.off on in
      rw (on, off) (record { sound = record { by_now = tt; off = λ e. refl }; same = refl })

  pub Shows-start : (a : Aligned X) (h : StreamHistory X) → Shows a h → Shows (with_start a) (started h)
  Shows-start a h s = rw s.same (start_step h _ refl s.sound)

  pub Shows-discard : (a : Aligned X) (h : StreamHistory X) → Shows a h → Shows (with_none a) (discarded h)
  Shows-discard a h s = record { sound = record { by_now = tt; off = λ e. refl }; same = rw s.same }

  none_of : (f : ℕ → OpenSlot X) (ns : List ℕ) → map f ns ≡ [] → ns ≡ []
  none_of f [] e = refl
  none_of f (n ∷ ns) e = absurd cc

  pub Shows-reshape : (a : Aligned X) (h : StreamHistory X) (effective : List Bool) → Shows a h → a.slots ≡ [] → Shows (with_shape a effective) (reshaped h effective)
  Shows-reshape a h effective s none =
      let closed : open_slots h ≡ [] = none_of (slot_seen h) (open_slots h) (rw s.same at none) in
      record { sound = record { by_now = s.sound.by_now; off = s.sound.off }; same = rw (s.same, closed) }

  pub Shows-opening : (window wait members : ℕ) → Shows (none_open {X = X} window wait members) (opening {X = X} window wait members)
  Shows-opening window wait members = record { sound = record { by_now = tt; off = λ e. refl }; same = refl }
