-- A share of an event for all is never refused, and its answer tells its frames.
use Rattle.std.proofs.Common.{◌≡◌, ℕ, Bool, true, false, if◌then◌else◌, List, [], ◌∷◌, length, filter, Option, Some, None, refl, subst}
use Rattle.std.specs.Prelude.{option_map}
use Rattle.pg_entitle.specs.Grants.{has_key}
use Rattle.pg_session.specs.Events as event
use Rattle.pg_session.specs.Events.{SubscriberEvent, Announcing, Sample}
use Rattle.pg_session.specs.Private.{done, refusal, takes_memory, answer, frames_of}
use Rattle.pg_session.specs.Shown.{Model}
use Rattle.pg_session.specs.ByAll.{by_arrivals, by_numbers}
use Rattle.pg_gateway.specs.Sharing.{SubscriberSlot, Broadcast, revokes, announces, measures, ticks, some_announced, some_measured, share, frames_in_share, frames_for, after_share, notes_of, shared_to}
use Rattle.pg_gateway.specs.Views.{private_run, share_seen, as_seen}
use Rattle.pg_gateway.proofs.SlotLaws.{owned}

pub record Quiet (p : Model) (x : SubscriberEvent) : Type 0 where
  pub allowed : refusal by_arrivals by_numbers p x ≡ None
  pub no_memory : takes_memory x ≡ false
  pub frames : (k : ℕ) → answer by_arrivals by_numbers p x k ≡ done (length (frames_of by_arrivals by_numbers p x)) k

some_is : {x y : SubscriberEvent} → Some x ≡ Some y → x ≡ y
some_is {x} {y} e = cc

none_is_some : {A : Type 0} {X : SubscriberEvent} → None ≡ Some X → A
none_is_some e = cc

pub share_quiet : (o : Broadcast) (p : Model) (x : SubscriberEvent) → share o p.grants ≡ Some x → Quiet p x
share_quiet (revokes key) p x is = by (has_key p.grants key) refl is
  where
    by : (b : Bool) → has_key p.grants key ≡ b → (if b then Some (event.revoke key) else None) ≡ Some x → Quiet p x
    by true h s = subst (λ y. Quiet p y) (some_is s) (record { allowed = rw h refl; no_memory = refl; frames = λ _. refl })
    by false h s = none_is_some s
share_quiet (announces list) p x is = by (filter (λ a. has_key p.grants a.key) list) is
  where
    by : (l : List Announcing) → some_announced l ≡ Some x → Quiet p x
    by [] s = none_is_some s
    by (a ∷ l) s = subst (λ y. Quiet p y) (some_is s) (record { allowed = refl; no_memory = refl; frames = λ _. refl })
share_quiet (measures soc quality frac samples) p x is = by (filter (λ s. has_key p.grants s.key) samples) is
  where
    by : (l : List Sample) → some_measured soc quality frac l ≡ Some x → Quiet p x
    by [] s = none_is_some s
    by (a ∷ l) s = subst (λ y. Quiet p y) (some_is s) (record { allowed = refl; no_memory = refl; frames = λ _. refl })
share_quiet (ticks soc) p x is = subst (λ y. Quiet p y) (some_is is) (record { allowed = refl; no_memory = refl; frames = λ _. refl })

-- with no loss it is what the private gateway makes of it
pub share_run : (o : Broadcast) (s : Option SubscriberSlot) → owned (option_map (λ s. shared_to o s (frames_for o s)) s) ≡ private_run (owned s) (share_seen o (owned s))
share_run o None = refl
share_run o (Some s) = by (share o s.own.grants) refl
  where
    by : (x : Option SubscriberEvent) → share o s.own.grants ≡ x
        → Some (after_share x (notes_of o) s (frames_in_share x s.own)).own ≡ private_run (Some s.own) (as_seen x)
    by None is = refl
    by (Some x) is =
        let q = share_quiet o s.own x is in
        rw (q.allowed, q.frames (length (frames_of by_arrivals by_numbers s.own x))) refl
