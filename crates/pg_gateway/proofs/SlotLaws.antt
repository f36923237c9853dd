-- Changes of the list of subscribers: what stands at each number afterwards, and that no number stands twice.
use Rattle.std.proofs.Common.{◌≡◌, ℕ, ◌+◌, ◌-◌, min, Bool, true, false, cond, if◌then◌else◌, nat_eq, is_some, List, [], ◌∷◌, ◌++◌, Option, Some, None, refl, ap, ◌∙◌, arith}
use Rattle.std.specs.Prelude.{option_map}
use Rattle.std.specs.Map.{lookup, remove_entry}
use Rattle.std.proofs.lemmas.Bool.Decides.{nat_tests}
use Rattle.pg_audit.specs.declared.audit.What.{What}
use Rattle.pg_session.specs.Private.{ReplyValue}
use Rattle.pg_session.specs.Shown.{Model}
use Rattle.pg_gateway.specs.Related.{Related}
use Rattle.pg_gateway.specs.Sharing.{SubscriberSlot, SubscriberSlots, Broadcast, frames_for, total, shared_to, broadcast}
use Rattle.pg_gateway.specs.State.{at_slot, slot_of, slots_noted, with_note, code_of}

-- the private gateway of a subscriber that may be there
abbrev pub owned : Option SubscriberSlot → Option Model
owned o = option_map (λ s. s.own) o

nat_eq_flip : (u w : ℕ) → nat_eq u w ≡ nat_eq w u
nat_eq_flip u w = grind (arith, nat_tests)

module _ {W : Type 0} where
  -- no number stands twice
  abbrev pub Alone : List (ℕ × W) → Type 0
  Alone [] = Unit {0}
  Alone (s ∷ ss) = (lookup (nat_eq s.0) ss ≡ None) × Alone ss

  pub lookup-push : (u w : ℕ) (p : W) (ss : List (ℕ × W)) → is_some (lookup (nat_eq w) ss) ≡ false → lookup (nat_eq u) (ss ++ (w, p) ∷ []) ≡ (if nat_eq u w then Some p else lookup (nat_eq u) ss)
  lookup-push u w p [] none = refl
  lookup-push u w p (s ∷ ss) none = grind (arith, nat_tests, lookup-push u w p ss)

  pub lookup-removed : (u w : ℕ) (ss : List (ℕ × W)) → Alone ss → lookup (nat_eq u) (remove_entry (nat_eq w) ss) ≡ (if nat_eq u w then None else lookup (nat_eq u) ss)
  lookup-removed u w [] alone = grind arith
  lookup-removed u w (s ∷ ss) alone = grind (arith, nat_tests, lookup-removed u w ss alone.1, alone.0)

  none-push : (test : ℕ → Bool) (w : ℕ) (p : W) (ss : List (ℕ × W)) → lookup test ss ≡ None → test w ≡ false → lookup test (ss ++ (w, p) ∷ []) ≡ None
  none-push test w p [] none not = rw not refl
  none-push test w p (s ∷ ss) none not = grind (arith, nat_tests, none-push test w p ss)

  none-removed : (test own : ℕ → Bool) (ss : List (ℕ × W)) → lookup test ss ≡ None → lookup test (remove_entry own ss) ≡ None
  none-removed test own [] none = refl
  none-removed test own (s ∷ ss) none = grind (arith, nat_tests, none-removed test own ss)

  pub Alone-push : (w : ℕ) (p : W) (ss : List (ℕ × W)) → Alone ss → is_some (lookup (nat_eq w) ss) ≡ false → Alone (ss ++ (w, p) ∷ [])
  Alone-push w p [] alone none = (refl, tt)
  Alone-push w p (s ∷ ss) alone none =
      let not : nat_eq w s.0 ≡ false = by (nat_eq w s.0) none in
      let rest : is_some (lookup (nat_eq w) ss) ≡ false = rw not at none in
      (none-push (nat_eq s.0) w p ss alone.0 (nat_eq_flip s.0 w ∙ not), Alone-push w p ss alone.1 rest)
    where
      by : (b : Bool) → is_some (cond b (Some s.1) (lookup (nat_eq w) ss)) ≡ false → b ≡ false
      by true h = cc
      by false h = refl

  pub Alone-removed : (own : ℕ → Bool) (ss : List (ℕ × W)) → Alone ss → Alone (remove_entry own ss)
  Alone-removed own [] alone = tt
  Alone-removed own (s ∷ ss) alone = by (own s.0) (none-removed (nat_eq s.0) own ss alone.0) (Alone-removed own ss alone.1)
    where
      by : (b : Bool) → lookup (nat_eq s.0) (remove_entry own ss) ≡ None → Alone (remove_entry own ss) → Alone (cond b ss (s ∷ remove_entry own ss))
      by true none rest = alone.1
      by false none rest = (none, rest)

-- it is so of lists with the same numbers
abbrev pub SameNumbers : {V W : Type 0} → List (ℕ × V) → List (ℕ × W) → Type 0
SameNumbers xs ys = Related (λ v w. Unit {0}) xs ys

pub Alone-same : {V W : Type 0} (xs : List (ℕ × V)) (ys : List (ℕ × W)) → SameNumbers ys xs → Alone xs → Alone ys
Alone-same [] [] same alone = tt
Alone-same [] (y ∷ ys) same alone = absurd same
Alone-same (x ∷ xs) [] same alone = absurd same
Alone-same {V} {W} (x ∷ xs) (y ∷ ys) same alone =
    let none : lookup (nat_eq y.0) xs ≡ None = rw same.0 alone.0 in
    (none_there (nat_eq y.0) xs ys same.2 none, Alone-same xs ys same.2 alone.1)
  where
    none_there : (test : ℕ → Bool) (xs : List (ℕ × V)) (ys : List (ℕ × W)) → SameNumbers ys xs → lookup test xs ≡ None → lookup test ys ≡ None
    none_there test [] [] same none = refl
    none_there test [] (y ∷ ys) same none = absurd same
    none_there test (x ∷ xs) [] same none = absurd same
    none_there test (x ∷ xs) (y ∷ ys) same none = rw same.0 (by (test x.0) none (none_there test xs ys same.2))
      where
        by : (b : Bool) → cond b (Some x.1) (lookup test xs) ≡ None → (lookup test xs ≡ None → lookup test ys ≡ None) → cond b (Some y.1) (lookup test ys) ≡ None
        by true h rest = cc
        by false h rest = rest h

pub same_itself : {W : Type 0} (ss : List (ℕ × W)) → SameNumbers ss ss
same_itself [] = tt
same_itself (s ∷ ss) = (refl, tt, same_itself ss)

-- a change of one subscriber
pub same-at_slot : (u : ℕ) (f : SubscriberSlot → SubscriberSlot) (ss : SubscriberSlots) → SameNumbers (at_slot u f ss) ss
same-at_slot u f [] = tt
same-at_slot u f (s ∷ ss) = by (nat_eq u s.0) (same-at_slot u f ss)
  where
    by : (b : Bool) → SameNumbers (at_slot u f ss) ss → SameNumbers (if b then (s.0, f s.1) ∷ ss else s ∷ at_slot u f ss) (s ∷ ss)
    by true rest = (refl, tt, same_itself ss)
    by false rest = (refl, tt, rest)

pub same-broadcast : (o : Broadcast) (ss : SubscriberSlots) (k : ℕ) → SameNumbers (broadcast o ss k) ss
same-broadcast o [] k = tt
same-broadcast o (s ∷ ss) k = (refl, tt, same-broadcast o ss (k - frames_for o s.1))

pub slot_of-at_slot : (u w : ℕ) (f : SubscriberSlot → SubscriberSlot) (ss : SubscriberSlots) → slot_of u (at_slot w f ss) ≡ (if nat_eq u w then option_map f (slot_of u ss) else slot_of u ss)
slot_of-at_slot u w f [] = none (nat_eq u w)
  where
    none : (b : Bool) → slot_of u [] ≡ (if b then option_map f (slot_of u []) else slot_of u [])
    none true = refl
    none false = refl
slot_of-at_slot u w f (s ∷ ss) = by (nat_eq w s.0) refl (nat_eq u s.0) refl (nat_eq u w) refl (slot_of-at_slot u w f ss)
  where
    by : (b : Bool) → nat_eq w s.0 ≡ b → (c : Bool) → nat_eq u s.0 ≡ c → (d : Bool) → nat_eq u w ≡ d
        → slot_of u (at_slot w f ss) ≡ (if d then option_map f (slot_of u ss) else slot_of u ss)
        → slot_of u (if b then (s.0, f s.1) ∷ ss else s ∷ at_slot w f ss) ≡ (if d then option_map f (cond c (Some s.1) (slot_of u ss)) else cond c (Some s.1) (slot_of u ss))
    by true wb true uc true ud rest = rw uc refl
    by true wb true uc false ud rest = absurd (grind (arith, nat_tests))
    by true wb false uc true ud rest = absurd (grind (arith, nat_tests))
    by true wb false uc false ud rest = rw uc refl
    by false wb true uc true ud rest = absurd (grind (arith, nat_tests))
    by false wb true uc false ud rest = rw uc refl
    by false wb false uc true ud rest = rw uc rest
    by false wb false uc false ud rest = rw uc rest

-- what is noted changes no private gateway
pub own-noted : (u : ℕ) (named : Option (ℕ × What)) (t : ReplyValue) (ss : SubscriberSlots) → owned (slot_of u (slots_noted named t ss)) ≡ owned (slot_of u ss)
own-noted u None t ss = refl
own-noted u (Some n) t ss = ap owned (slot_of-at_slot u n.0 (with_note (n.1, code_of t)) ss) ∙ by (nat_eq u n.0) (slot_of u ss)
  where
    by : (b : Bool) (o : Option SubscriberSlot) → owned (if b then option_map (with_note (n.1, code_of t)) o else o) ≡ owned o
    by true None = refl
    by true (Some s) = refl
    by false o = refl

-- at an event for all with no loss each subscriber takes its share, and no other
pub slot_of-broadcast : (u : ℕ) (o : Broadcast) (ss : SubscriberSlots) → slot_of u (broadcast o ss (total o ss)) ≡ option_map (λ s. shared_to o s (frames_for o s)) (slot_of u ss)
slot_of-broadcast u o [] = refl
slot_of-broadcast u o (s ∷ ss) =
    let c = frames_for o s.1 in
    let mine : min (c + total o ss) c ≡ c = omega arith in
    let rest : c + total o ss - c ≡ total o ss = omega arith in
    rw (mine, rest) (by (nat_eq u s.0) (slot_of-broadcast u o ss))
  where
    by : (b : Bool) → slot_of u (broadcast o ss (total o ss)) ≡ option_map (λ s. shared_to o s (frames_for o s)) (slot_of u ss)
        → cond b (Some (shared_to o s.1 (frames_for o s.1))) (slot_of u (broadcast o ss (total o ss))) ≡ option_map (λ s. shared_to o s (frames_for o s)) (cond b (Some s.1) (slot_of u ss))
    by true h = refl
    by false h = h
