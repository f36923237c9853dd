-- The slots that leave rise, and something came for each.
use Rattle.std.proofs.Common.{◌≡◌, ℕ, Bool, true, false, List, [], ◌∷◌, map, Option, refl, inl}
use Rattle.std.specs.Prelude.{nat_lt, ◌==◌, if◌then◌else◌}
use Rattle.pg_align.specs.Histories.{Arrival, StreamHistory, slot_left, is_above, put_number, open_numbers, open_slots, is_to_leave, cause_of, left, leave_in_turn, leave_all, flush_in_turn, flush_all, RiseTo}
use Rattle.pg_align.specs.declared.counts.Cause.TheVariants.{Changed}
use Rattle.pg_align.proofs.Leaving.{open_above, rest_open}

module _ {X : Type 0} where
  -- the least open slot is above the last one that left
  first_above : (h : StreamHistory X) (slot : ℕ) (slots : List ℕ) → open_slots h ≡ slot ∷ slots → is_above h.last slot ≡ true
  first_above h slot slots e = open_above h.last slot h.arrivals (rw e (inl refl))

  rise_step : (h : StreamHistory X) (slot : ℕ) (slots : List ℕ) (b : Bool) → is_to_leave h (slot ∷ slots) ≡ b → is_above h.last slot ≡ true → RiseTo (leave_in_turn (left h (cause_of h slot) slot) slots).after.last h.last (slot ∷ map slot_left (leave_in_turn (left h (cause_of h slot) slot) slots).frames) → RiseTo (leave_in_turn h (slot ∷ slots)).after.last h.last (map slot_left (leave_in_turn h (slot ∷ slots)).frames)
  rise_step h slot slots true t up below = rw t below
  rise_step h slot slots false t up below = rw t refl

  rise_turn : (h : StreamHistory X) (numbers : List ℕ) → open_slots h ≡ numbers → RiseTo (leave_in_turn h numbers).after.last h.last (map slot_left (leave_in_turn h numbers).frames)
  rise_turn h [] e = refl
  rise_turn h (slot ∷ slots) e =
      let up = first_above h slot slots e in
      rise_step h slot slots _ refl up (up, rise_turn (left h (cause_of h slot) slot) slots (rest_open h (cause_of h slot) slot slots e))

  pub leaving-rises : (h : StreamHistory X) → RiseTo (leave_all h).after.last h.last (map slot_left (leave_all h).frames)
  leaving-rises h = rise_turn h (open_slots h) refl

  rise_flushed : (h : StreamHistory X) (numbers : List ℕ) → open_slots h ≡ numbers → RiseTo (flush_in_turn h numbers).after.last h.last (map slot_left (flush_in_turn h numbers).frames)
  rise_flushed h [] e = refl
  rise_flushed h (slot ∷ slots) e = (first_above h slot slots e, rise_flushed (left h Changed slot) slots (rest_open h Changed slot slots e))

  pub flushing-rises : (h : StreamHistory X) → RiseTo (flush_all h).after.last h.last (map slot_left (flush_all h).frames)
  flushing-rises h = rise_flushed h (open_slots h) refl

-- each of these slots is so
abbrev pub AreSo : (ℕ → Type 0) → List ℕ → Type 0
AreSo P [] = Unit {0}
AreSo P (slot ∷ slots) = P slot × AreSo P slots

-- each arrival is for such a slot
abbrev pub CameFor : {X : Type 0} → (ℕ → Type 0) → List (Arrival X) → Type 0
CameFor P [] = Unit {0}
CameFor P (a ∷ arrivals) = P a.slot × CameFor P arrivals

so_step : (P : ℕ → Type 0) (n m : ℕ) (ms : List ℕ) (b q : Bool) → P n → AreSo P (m ∷ ms) → AreSo P (put_number n ms) → AreSo P (if b then n ∷ m ∷ ms else if q then m ∷ ms else m ∷ put_number n ms)
so_step P n m ms true q is are below = (is, are)
so_step P n m ms false true is are below = are
so_step P n m ms false false is are below = (are.0, below)

so_put : (P : ℕ → Type 0) (n : ℕ) (ms : List ℕ) → P n → AreSo P ms → AreSo P (put_number n ms)
so_put P n [] is are = (is, tt)
so_put P n (m ∷ ms) is are = so_step P n m ms (nat_lt n m) (m == n) is are (so_put P n ms is are.1)

so_open_step : (P : ℕ → Type 0) (n : ℕ) (ms : List ℕ) (b : Bool) → P n → AreSo P ms → AreSo P (if b then put_number n ms else ms)
so_open_step P n ms true is are = so_put P n ms is are
so_open_step P n ms false is are = are

module _ {X : Type 0} where
  so_open : (P : ℕ → Type 0) (last : Option ℕ) (arrivals : List (Arrival X)) → CameFor P arrivals → AreSo P (open_numbers last arrivals)
  so_open P last [] came = tt
  so_open P last (a ∷ arrivals) came = so_open_step P a.slot (open_numbers last arrivals) (is_above last a.slot) came.0 (so_open P last arrivals came.1)

  so_left_step : (P : ℕ → Type 0) (h : StreamHistory X) (slot : ℕ) (slots : List ℕ) (b : Bool) → is_to_leave h (slot ∷ slots) ≡ b → P slot → AreSo P (map slot_left (leave_in_turn (left h (cause_of h slot) slot) slots).frames) → AreSo P (map slot_left (leave_in_turn h (slot ∷ slots)).frames)
  so_left_step P h slot slots true t is below = rw t (is, below)
  so_left_step P h slot slots false t is below = rw t tt

  so_left : (P : ℕ → Type 0) (h : StreamHistory X) (numbers : List ℕ) → AreSo P numbers → AreSo P (map slot_left (leave_in_turn h numbers).frames)
  so_left P h [] are = tt
  so_left P h (slot ∷ slots) are = so_left_step P h slot slots _ refl are.0 (so_left P (left h (cause_of h slot) slot) slots are.1)

  so_flushed : (P : ℕ → Type 0) (h : StreamHistory X) (numbers : List ℕ) → AreSo P numbers → AreSo P (map slot_left (flush_in_turn h numbers).frames)
  so_flushed P h [] are = tt
  so_flushed P h (slot ∷ slots) are = (are.0, so_flushed P (left h Changed slot) slots are.1)

  -- something came for each slot that leaves
  pub leaving-so : (P : ℕ → Type 0) (h : StreamHistory X) → CameFor P h.arrivals → AreSo P (map slot_left (leave_all h).frames)
  leaving-so P h came = so_left P h (open_slots h) (so_open P h.last h.arrivals came)

  pub flushing-so : (P : ℕ → Type 0) (h : StreamHistory X) → CameFor P h.arrivals → AreSo P (map slot_left (flush_all h).frames)
  flushing-so P h came = so_flushed P h (open_slots h) (so_open P h.last h.arrivals came)

  -- what left leaves the arrivals and the switch as they are
  abbrev Stays : StreamHistory X → StreamHistory X → Type 0
  Stays h after = (after.arrivals ≡ h.arrivals) × (after.is_on ≡ h.is_on)

  stays_step : (h : StreamHistory X) (slot : ℕ) (slots : List ℕ) (b : Bool) → is_to_leave h (slot ∷ slots) ≡ b → Stays h (leave_in_turn (left h (cause_of h slot) slot) slots).after → Stays h (leave_in_turn h (slot ∷ slots)).after
  stays_step h slot slots true t below = rw t below
  stays_step h slot slots false t below = rw t (refl, refl)

  stays_turn : (h : StreamHistory X) (numbers : List ℕ) → Stays h (leave_in_turn h numbers).after
  stays_turn h [] = (refl, refl)
  stays_turn h (slot ∷ slots) = stays_step h slot slots _ refl (stays_turn (left h (cause_of h slot) slot) slots)

  pub leaving-stays : (h : StreamHistory X) → ((leave_all h).after.arrivals ≡ h.arrivals) × ((leave_all h).after.is_on ≡ h.is_on)
  leaving-stays h = stays_turn h (open_slots h)

  stays_flushed : (h : StreamHistory X) (numbers : List ℕ) → Stays h (flush_in_turn h numbers).after
  stays_flushed h [] = (refl, refl)
  stays_flushed h (slot ∷ slots) = stays_flushed (left h Changed slot) slots

  pub flushing-stays : (h : StreamHistory X) → ((flush_all h).after.arrivals ≡ h.arrivals) × ((flush_all h).after.is_on ≡ h.is_on)
  flushing-stays h = stays_flushed h (open_slots h)
