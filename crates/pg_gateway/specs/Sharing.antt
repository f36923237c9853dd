-- What an event for all is to each subscriber, and what it leaves of them.
use Rattle.std.specs.Prelude.{ℕ, ◌+◌, ◌-◌, min, if◌then◌else◌, List, [], ◌∷◌, ◌++◌, length, filter, Option, Some, None}
use Rattle.pg_wire.specs.declared.ids.PmuKey.{PmuKey}
use Rattle.pg_entitle.specs.Grants.{has_key}
use Rattle.pg_audit.specs.Noting.{Noted}
use Rattle.pg_audit.specs.declared.audit.What.TheVariants.{Revoke}
use Rattle.pg_session.specs.Events as session
use Rattle.pg_session.specs.Events.{SubscriberEvent, Announcing, Sample}
use Rattle.pg_session.specs.Private.{frames_of, effect}
use Rattle.pg_session.specs.Shown.{Model}
use Rattle.pg_session.specs.ByAll.{by_arrivals, by_numbers}

-- a subscriber: its private gateway, and all that was noted of it
pub record SubscriberSlot : Type 0 where
  pub own : Model
  pub noted : List Noted

-- by their numbers, in the order in which they were added
abbrev pub SubscriberSlots : Type 0
SubscriberSlots = List (ℕ × SubscriberSlot)

-- what happens to all subscribers
pub data Broadcast : Type 0 where
  -- a PMU is dropped, and so revoked
  revokes : PmuKey → Broadcast
  -- registered PMUs announced
  announces : List Announcing → Broadcast
  -- SOC, quality, numerator, and the blocks that were taken
  measures : ℕ → ℕ → ℕ → List Sample → Broadcast
  ticks : ℕ → Broadcast

-- nothing, where there is none
abbrev pub some_announced : List Announcing → Option SubscriberEvent
some_announced [] = None
some_announced (a ∷ list) = Some (session.announce (a ∷ list))

abbrev pub some_measured : ℕ → ℕ → ℕ → List Sample → Option SubscriberEvent
some_measured soc quality frac [] = None
some_measured soc quality frac (s ∷ samples) = Some (session.measure soc quality frac (s ∷ samples))

-- what that is to one that is granted these keys: what concerns them alone
abbrev pub share : Broadcast → List PmuKey → Option SubscriberEvent
share (revokes key) grants = if has_key grants key then Some (session.revoke key) else None
share (announces list) grants = some_announced (filter (λ a. has_key grants a.key) list)
share (measures soc quality frac samples) grants = some_measured soc quality frac (filter (λ s. has_key grants s.key) samples)
share (ticks soc) grants = Some (session.tick soc)

-- that a PMU was revoked is noted
abbrev pub notes_of : Broadcast → List Noted
notes_of (revokes key) = (Revoke, None) ∷ []
notes_of (announces list) = []
notes_of (measures soc quality frac samples) = []
notes_of (ticks soc) = []

abbrev pub frames_in_share : Option SubscriberEvent → Model → ℕ
frames_in_share None p = 0
frames_in_share (Some x) p = length (frames_of by_arrivals by_numbers p x)

-- the frames that it makes for one subscriber, and for all
abbrev pub frames_for : Broadcast → SubscriberSlot → ℕ
frames_for o s = frames_in_share (share o s.own.grants) s.own

abbrev pub total : Broadcast → SubscriberSlots → ℕ
total o [] = 0
total o (s ∷ slots) = frames_for o s.1 + total o slots

-- a subscriber after its share, with the first k of its frames kept
abbrev pub after_share : Option SubscriberEvent → List Noted → SubscriberSlot → ℕ → SubscriberSlot
after_share None notes s k = s
after_share (Some x) notes s k = record { own = effect by_arrivals by_numbers s.own x k; noted = s.noted ++ notes }

abbrev pub shared_to : Broadcast → SubscriberSlot → ℕ → SubscriberSlot
shared_to o s k = after_share (share o s.own.grants) (notes_of o) s k

-- each subscriber takes its share; of all frames, in the order of the subscribers, the first k are kept
abbrev pub broadcast : Broadcast → SubscriberSlots → ℕ → SubscriberSlots
broadcast o [] k = []
broadcast o (s ∷ slots) k =
    (s.0, shared_to o s.1 (min k (frames_for o s.1))) ∷ broadcast o slots (k - frames_for o s.1)
