-- A change of one subscriber, in the list and in what it shows.
use Rattle.std.proofs.Common.{◌≡◌, ℕ, ◌⊎◌, ◌≤◌, Bool, true, false, cond, if◌then◌else◌, nat_eq, List, [], ◌∷◌, ◌++◌, Option, Some, None, MatchOption, refl, sym, ap, subst, ◌∙◌, inl, inr}
use Rattle.std.specs.Prelude.{option_map}
use Rattle.std.specs.Map.{lookup, set_value, remove_entry}
use Rattle.pg_wire.specs.declared.refusal.Refusal.{Refusal}
use Rattle.pg_wire.specs.declared.refusal.Refusal.TheVariants.{NoMemory, NoSuchSub}
use Rattle.pg_audit.specs.declared.audit.What.{What}
use Rattle.pg_session.specs.Events.{SubscriberEvent}
use Rattle.pg_session.specs.Private as private
use Rattle.pg_session.specs.Private.{ReplyValue, done, refused}
use Rattle.pg_session.specs.ByAll.{by_arrivals, by_numbers}
use Rattle.pg_gateway.specs.Related.{Related}
use Rattle.pg_gateway.specs.Sharing.{SubscriberSlot, SubscriberSlots}
use Rattle.pg_gateway.specs.GatewayEvents.{asks, tells}
use Rattle.pg_gateway.specs.State.{SharedMachine, slot_of, at_slot, moved, with_note, code_of, noted_as, slots_noted, own_refusal, own_frames, own_answer, May}
use Rattle.pg_gateway.specs.Shown.{SlotValue, SlotShows, GatewayValue, GatewayShows, Steps}
use Rattle.pg_gateway.specs.Taking.{noted_by, OwnMay, TakesAt}
use Rattle.pg_gateway.specs.Frugal.{AllSlots}

pub at_slot-none : (u : ℕ) (f : SubscriberSlot → SubscriberSlot) (ss : SubscriberSlots) → slot_of u ss ≡ None → at_slot u f ss ≡ ss
at_slot-none u f [] none = refl
at_slot-none u f (s ∷ ss) none = by (nat_eq u s.0) none (at_slot-none u f ss)
  where
    by : (b : Bool) → cond b (Some s.1) (slot_of u ss) ≡ None → (slot_of u ss ≡ None → at_slot u f ss ≡ ss) → (if b then (s.0, f s.1) ∷ ss else s ∷ at_slot u f ss) ≡ s ∷ ss
    by true none rest = cc
    by false none rest = ap (λ l. s ∷ l) (rest none)

pub at_slot-twice : (u : ℕ) (f g : SubscriberSlot → SubscriberSlot) (ss : SubscriberSlots) → at_slot u f (at_slot u g ss) ≡ at_slot u (λ s. f (g s)) ss
at_slot-twice u f g [] = refl
at_slot-twice u f g (s ∷ ss) = by (nat_eq u s.0) refl (at_slot-twice u f g ss)
  where
    by : (b : Bool) → nat_eq u s.0 ≡ b → at_slot u f (at_slot u g ss) ≡ at_slot u (λ s. f (g s)) ss
        → at_slot u f (if b then (s.0, g s.1) ∷ ss else s ∷ at_slot u g ss) ≡ (if b then (s.0, f (g s.1)) ∷ ss else s ∷ at_slot u (λ s. f (g s)) ss)
    by true is rest = rw is refl
    by false is rest = rw is (ap (λ l. s ∷ l) rest)

module _ {V : Type 0} (R : V → SubscriberSlot → Type 0) where
  pub Related-at_slot : (u : ℕ) (f : SubscriberSlot → SubscriberSlot) (xs : List (ℕ × V)) (ss : SubscriberSlots) (v w : V) → Related R xs ss → lookup (nat_eq u) xs ≡ Some v → ((s : SubscriberSlot) → R v s → R w (f s))
      → Related R (set_value (nat_eq u) xs w) (at_slot u f ss)
  Related-at_slot u f [] [] v w h at goes = tt
  Related-at_slot u f [] (s ∷ ss) v w h at goes = absurd h
  Related-at_slot u f (x ∷ xs) [] v w h at goes = absurd h
  Related-at_slot u f (x ∷ xs) (s ∷ ss) v w h at goes = by (nat_eq u x.0) (nat_eq u s.0) (ap (nat_eq u) h.0) at (Related-at_slot u f xs ss v w h.2)
    where
      by : (b c : Bool) → b ≡ c → cond b (Some x.1) (lookup (nat_eq u) xs) ≡ Some v
          → (lookup (nat_eq u) xs ≡ Some v → ((s : SubscriberSlot) → R v s → R w (f s)) → Related R (set_value (nat_eq u) xs w) (at_slot u f ss))
          → Related R (cond b ((x.0, w) ∷ xs) (x ∷ set_value (nat_eq u) xs w)) (if c then (s.0, f s.1) ∷ ss else s ∷ at_slot u f ss)
      by true true same at rest = let is : x.1 ≡ v = cc in (h.0, goes s.1 (subst (λ y. R y s.1) is h.1), h.2)
      by false false same at rest = (h.0, h.1, rest at goes)
      by true false same at rest = absurd (cc)
      by false true same at rest = absurd (cc)

-- what holds of each subscriber
module _ (P : SlotValue → Type 0) where
  pub slots-lookup : (test : ℕ → Bool) (xs : List (ℕ × SlotValue)) (v : SlotValue) → AllSlots P xs → lookup test xs ≡ Some v → P v
  slots-lookup test [] v all at = absurd (none_is v at)
    where
      none_is : (v : SlotValue) → None ≡ Some v → ⊥
      none_is v e = cc
  slots-lookup test (x ∷ xs) v all at = by (test x.0) at (slots-lookup test xs v all.1)
    where
      by : (b : Bool) → cond b (Some x.1) (lookup test xs) ≡ Some v → (lookup test xs ≡ Some v → P v) → P v
      by true at rest = let is : x.1 ≡ v = cc in subst P is all.0
      by false at rest = rest at

  pub slots-set_value : (test : ℕ → Bool) (xs : List (ℕ × SlotValue)) (w : SlotValue) → AllSlots P xs → P w → AllSlots P (set_value test xs w)
  slots-set_value test [] w all p = tt
  slots-set_value test (x ∷ xs) w all p = by (test x.0) (slots-set_value test xs w all.1 p)
    where
      by : (b : Bool) → AllSlots P (set_value test xs w) → AllSlots P (cond b ((x.0, w) ∷ xs) (x ∷ set_value test xs w))
      by true rest = (p, all.1)
      by false rest = (all.0, rest)

  pub slots-removed : (test : ℕ → Bool) (xs : List (ℕ × SlotValue)) → AllSlots P xs → AllSlots P (remove_entry test xs)
  slots-removed test [] all = tt
  slots-removed test (x ∷ xs) all = by (test x.0) (slots-removed test xs all.1)
    where
      by : (b : Bool) → AllSlots P (remove_entry test xs) → AllSlots P (cond b xs (x ∷ remove_entry test xs))
      by true rest = all.1
      by false rest = (all.0, rest)

  pub slots-push : (u : ℕ) (v : SlotValue) (xs : List (ℕ × SlotValue)) → AllSlots P xs → P v → AllSlots P (xs ++ (u, v) ∷ [])
  slots-push u v [] all p = (p, tt)
  slots-push u v (x ∷ xs) all p = (all.0, slots-push u v xs all.1 p)

-- the subscriber is not there
pub nobody_takes : (u : ℕ) (x : SubscriberEvent) (slots : SubscriberSlots) (entries : List (ℕ × SlotValue)) → Related SlotShows entries slots → slot_of u slots ≡ None → TakesAt u x (refused NoSuchSub) slots entries
nobody_takes u x slots entries related none =
    record {
      may = rw none refl;
      shows = subst (λ l. Related SlotShows entries l) (sym (by (noted_as x))) related;
    }
  where
    gone : at_slot u (moved x (refused NoSuchSub)) slots ≡ slots
    gone = at_slot-none u (moved x (refused NoSuchSub)) slots none

    by : (o : Option What) → slots_noted (option_map (λ what. (u, what)) o) (refused NoSuchSub) (at_slot u (moved x (refused NoSuchSub)) slots) ≡ slots
    by None = gone
    by (Some what) = ap (λ l. at_slot u (with_note (what, Some NoSuchSub)) l) gone ∙ at_slot-none u (with_note (what, Some NoSuchSub)) slots none

-- the subscriber is there
pub one_takes : (u : ℕ) (x : SubscriberEvent) (t : ReplyValue) (named : Option What) (slots : SubscriberSlots) (entries : List (ℕ × SlotValue)) (v w : SlotValue) (s : SubscriberSlot) → noted_as x ≡ named
    → Related SlotShows entries slots → lookup (nat_eq u) entries ≡ Some v → slot_of u slots ≡ Some s → private.May by_arrivals by_numbers s.own x false t
    → ((s : SubscriberSlot) → SlotShows v s → SlotShows w (noted_by named t (moved x t s)))
    → TakesAt u x t slots (set_value (nat_eq u) entries w)
one_takes u x t named slots entries v w s is related at there may goes =
    record {
      may = rw there may;
      shows = subst (λ o. Related SlotShows (set_value (nat_eq u) entries w) (slots_noted (option_map (λ what. (u, what)) o) t (at_slot u (moved x t) slots))) (sym is) (by named goes);
    }
  where
    by : (o : Option What) → ((s : SubscriberSlot) → SlotShows v s → SlotShows w (noted_by o t (moved x t s)))
        → Related SlotShows (set_value (nat_eq u) entries w) (slots_noted (option_map (λ what. (u, what)) o) t (at_slot u (moved x t) slots))
    by None goes = Related-at_slot SlotShows u (moved x t) entries slots v w related at goes
    by (Some what) goes =
        rw (at_slot-twice u (with_note (what, code_of t)) (moved x t) slots)
        (Related-at_slot SlotShows u (λ s. with_note (what, code_of t) (moved x t s)) entries slots v w related at goes)

-- so the gateway goes by such an event
pub own_may : (u : ℕ) (S : SharedMachine) (x : SubscriberEvent) (t : ReplyValue) → OwnMay (slot_of u S.subs) x t → May S (asks u x) (tells t)
own_may u S x t may = by (slot_of u S.subs) may
  where
    told_may : (s : SubscriberSlot) (r : Option Refusal)
        → MatchOption r (((k : ℕ) × (k ≤ own_frames (Some s) x) × (false ≡ true → k ≡ 0) × (t ≡ private.answer by_arrivals by_numbers s.own x k)) ⊎ ((t ≡ refused NoMemory) × (private.takes_memory x ≡ true))) (λ first. t ≡ refused first)
        → MatchOption r (((k : ℕ) × (k ≤ own_frames (Some s) x) × (tells t ≡ tells (private.answer by_arrivals by_numbers s.own x k))) ⊎ ((tells t ≡ tells (refused NoMemory)) × (private.takes_memory x ≡ true))) (λ first. tells t ≡ tells (refused first))
    told_may s None (inl m) = inl (m.0, m.1, ap tells m.3)
    told_may s None (inr m) = inr (ap tells m.0, m.1)
    told_may s (Some r) m = ap tells m

    by : (o : Option SubscriberSlot) → OwnMay o x t
        → MatchOption (own_refusal o x) (((k : ℕ) × (k ≤ own_frames o x) × (tells t ≡ tells (own_answer o x k))) ⊎ ((tells t ≡ tells (refused NoMemory)) × (private.takes_memory x ≡ true))) (λ first. tells t ≡ tells (refused first))
    by None m = ap tells m
    by (Some s) m = told_may s (private.refusal by_arrivals by_numbers s.own x) m

pub asks_goes : (u : ℕ) (x : SubscriberEvent) (t : ReplyValue) (S : SharedMachine) (old : GatewayValue) (entries : List (ℕ × SlotValue)) → GatewayShows old S → TakesAt u x t S.subs entries
    → Steps S (asks u x) (tells t) (record { pmus = old.pmus; subs = entries; last_tick = old.last_tick })
asks_goes u x t S old entries shown takes =
    record {
      may = own_may u S x t takes.may;
      shows = record { pmus = shown.pmus; subs = takes.shows; last_tick = shown.last_tick };
    }
