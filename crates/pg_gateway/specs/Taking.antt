-- How an event for all is lent to each subscriber, and how that goes on.
use Rattle.std.specs.Prelude.{◌≡◌, ◌≢◌, ◌⊎◌, ◌≤◌, ℕ, Bool, true, false, List, [], length, Option, Some, None, Result, Ok, Err, IfOk, IfErr, IsOk}
use Rattle.std.specs.Arc.{arc_value}
use Rattle.pg_wire.specs.declared.ids.PmuKey.{PmuKey}
use Rattle.pg_config.specs.Parts.{Part, Source}
use Rattle.pg_data.specs.Measurements.{Measurement}
use Rattle.pg_session.specs.Events.{SubscriberEvent, drain, announced_at, samples_at, key_in}
use Rattle.pg_wire.specs.declared.refusal.Refusal.{Refusal}
use Rattle.pg_wire.specs.declared.refusal.Refusal.TheVariants.{NoSuchSub, NoMemory}
use Rattle.pg_session.specs.declared.event.PrivateEvent.{PrivateEvent}
use Rattle.pg_session.specs.declared.event.PrivateEvent.TheVariants as private
use Rattle.pg_session.specs.Private.{refusal, ReplyValue, done, refused, handed, May}
use Rattle.pg_session.specs.ByAll.{by_arrivals, by_numbers}
use Rattle.pg_session.specs.Shown.{SubscriberValue}
use Rattle.pg_session.specs.Steps.{HasNoCopies}
use Rattle.pg_session.specs.Ready.{IsFor, NeedsNone, AreRising}
use Rattle.pg_session.specs.Filling.{IsPreparedFor}
use Rattle.pg_gateway.specs.declared.event.Event.{Event}
use Rattle.pg_gateway.specs.declared.event.Event.TheVariants as event
use Rattle.pg_gateway.specs.Sharing.{SubscriberSlot, SubscriberSlots, Broadcast, revokes, announces, measures, ticks, share, frames_for, shared_to, total, broadcast}
use Rattle.pg_audit.specs.declared.audit.What.{What}
use Rattle.pg_audit.specs.declared.audit.What.TheVariants as audited
use Rattle.pg_gateway.specs.GatewayEvents.{GatewayEvent, grant, asks, measure, audit, Answer, tells}
use Rattle.pg_gateway.specs.State.{slot_of, at_slot, moved, names, with_note, code_of, slots_noted}
use Rattle.pg_gateway.specs.Related.{Related}
use Rattle.pg_gateway.specs.Shown.{SlotValue, SlotShows}
use Rattle.pg_gateway.specs.Frugal.{Spares}

-- the blocks of a frame at some places
abbrev pub measured : Measurement → List ℕ → Broadcast
measured m places = measures m.soc m.quality m.frac (samples_at m places)

-- what comes of an event for all: the frames made and those kept, or why it is refused
abbrev pub told_to_all : Result (ℕ × ℕ) Refusal → Answer
told_to_all (Ok counts) = tells (done counts.0 counts.1)
told_to_all (Err r) = tells (refused r)

-- What an event is to all subscribers, with these places of a frame's PMUs. The others are nothing to them.
abbrev pub broadcast_of : Event → List ℕ → Broadcast
broadcast_of (event.DropPmu key) places = revokes key
broadcast_of (event.Announce config) places = announces (announced_at (arc_value config) places)
broadcast_of (event.Measure frame) places = measured (arc_value frame) places
broadcast_of (event.Tick soc) places = ticks soc
broadcast_of _ places = announces []

-- these are places of the frame's PMUs, and rise
abbrev pub IsRising : Event → List ℕ → Type 0
IsRising (event.Announce config) places = AreRising 0 (length (arc_value config).parts) places
IsRising (event.Measure frame) places = AreRising 0 (length (arc_value frame).config.parts) places
IsRising _ places = Unit {0}

-- the event is no data frame
abbrev pub IsNoFrame : Event → Type 0
IsNoFrame (event.Measure frame) = ⊥
IsNoFrame _ = Unit {0}

-- the PMU at a place passes a test of its key
abbrev pub part_passes : (PmuKey → Bool) → Source → Option Part → Bool
part_passes test config None = false
part_passes test config (Some part) = test (key_in config part)

-- The subscriber may take its share, where it has one: the copies lie ready that it needs, and it is as the subscriber asks it to be.
abbrev pub IsFit : SubscriberValue → Option SubscriberEvent → Type 0
IsFit v None = Unit {0}
IsFit v (Some x) = IsFor v.own x

abbrev pub IsPrepared : SubscriberValue → Option SubscriberEvent → Type 0
IsPrepared v None = HasNoCopies v
IsPrepared v (Some x) = IsPreparedFor v x

pub record Awaits (o : Broadcast) (v : SlotValue) : Type 0 where
  pub fit : IsFit v.subscriber (share o v.subscriber.own.grants)
  pub prepared : IsPrepared v.subscriber (share o v.subscriber.own.grants)
  pub spared : v.spared ≡ true → share o v.subscriber.own.grants ≡ None

-- One subscriber took its share.
pub record TakesShare (o : Broadcast) (lost : Bool) (made kept : ℕ) (s : SubscriberSlot) (v : SlotValue) : Type 0 where
  pub count : made ≡ frames_for o s
  pub none_kept : lost ≡ true → kept ≡ 0
  pub shows : SlotShows v (shared_to o s kept)

-- Whatever a subscriber shows, it took its share, of few frames, and no copies lie ready.
pub record TakesBroadcast (o : Broadcast) (lost : Bool) (old : SlotValue) (counts : ℕ × ℕ) (new : SlotValue) : Type 0 where
  pub shares : (s : SubscriberSlot) → SlotShows old s → TakesShare o lost counts.0 counts.1 s new
  pub few : counts.0 ≤ 640
  pub kept : counts.1 ≤ counts.0
  pub none : HasNoCopies new.subscriber

-- All subscribers took their shares.
pub record IsBroadcast (o : Broadcast) (made kept : ℕ) (slots : SubscriberSlots) (entries : List (ℕ × SlotValue)) : Type 0 where
  pub count : made ≡ total o slots
  pub shows : Related SlotShows entries (broadcast o slots kept)

-- what a reply counts
abbrev pub counts_of : ReplyValue → ℕ × ℕ
counts_of (done made kept) = (made, kept)
counts_of (refused r) = (0, 0)
counts_of (handed bytes begun gap) = (0, 0)

-- no copies lie ready, and nothing is known of its share; its share is as it asks it to be
abbrev pub HasNone : SlotValue → Type 0
HasNone v = HasNoCopies v.subscriber × (v.spared ≡ false)

abbrev pub Fits : Broadcast → SlotValue → Type 0
Fits o v = IsFit v.subscriber (share o v.subscriber.own.grants)

-- A subscriber laid the copies that its share needs, or memory was refused; where it needs none, it was not. A subscriber that
-- is spared has no share. Nothing that it shows changed.
pub record PreparesShare (o : Broadcast) (old : SlotValue) (result : Result Unit Refusal) (new : SlotValue) : Type 0 where
  pub prepared : IfOk result (λ u. IsPrepared new.subscriber (share o old.subscriber.own.grants))
  pub memory : IfErr result (λ r. r ≡ NoMemory)
  pub needless : Spares o old → IsOk result
  pub spared : IfOk result (λ u. new.spared ≡ true → share o old.subscriber.own.grants ≡ None)
  pub own : new.subscriber.own ≡ old.subscriber.own
  pub audit : new.audit ≡ old.audit

-- events of one subscriber that need no copy
abbrev pub AsksNothing : PrivateEvent → Type 0
AsksNothing (private.Grant key config) = ⊥
AsksNothing (private.Announce config places) = ⊥
AsksNothing (private.Measure frame places) = ⊥
AsksNothing _ = Unit {0}

-- this may come to an event for the subscriber, which may not be there
abbrev pub OwnMay : Option SubscriberSlot → SubscriberEvent → ReplyValue → Type 0
OwnMay None x t = t ≡ refused NoSuchSub
OwnMay (Some s) x t = May by_arrivals by_numbers s.own x false t

-- The subscriber of a number took an event for it alone, which is noted where such are.
pub record TakesAt (u : ℕ) (x : SubscriberEvent) (t : ReplyValue) (slots : SubscriberSlots) (entries : List (ℕ × SlotValue)) : Type 0 where
  pub may : OwnMay (slot_of u slots) x t
  pub shows : Related SlotShows entries (slots_noted (names (asks u x)) t (at_slot u (moved x t) slots))

-- A subscriber took an event for it alone, which is noted as this, or not.
abbrev pub noted_by : Option What → ReplyValue → SubscriberSlot → SubscriberSlot
noted_by None t s = s
noted_by (Some what) t s = with_note (what, code_of t) s

pub record Asks (s : SubscriberSlot) (x : SubscriberEvent) (t : ReplyValue) (named : Option What) (v : SlotValue) : Type 0 where
  pub may : May by_arrivals by_numbers s.own x false t
  pub shows : SlotShows v (noted_by named t (moved x t s))

-- The subscriber of a number was drained.
pub record DrainsAt (u n : ℕ) (a : Answer) (slots : SubscriberSlots) (entries : List (ℕ × SlotValue)) : Type 0 where
  pub t : ReplyValue
  pub is : a ≡ tells t
  pub takes : TakesAt u (drain n) t slots entries

-- this may come to a grant of a registered PMU to the subscriber, which may not be there
abbrev pub GrantMay : Option SubscriberSlot → SubscriberEvent → ReplyValue → Type 0
GrantMay None x t = t ≡ refused NoSuchSub
GrantMay (Some s) x t = May by_arrivals by_numbers s.own x false t ⊎ ((refusal by_arrivals by_numbers s.own x ≡ None) × (t ≡ refused NoMemory))

-- A subscriber took a grant, or memory was refused before it did; it is noted as this, or not.
pub record Grants (s : SubscriberSlot) (x : SubscriberEvent) (t : ReplyValue) (named : Option What) (v : SlotValue) : Type 0 where
  pub may : GrantMay (Some s) x t
  pub shows : SlotShows v (noted_by named t (moved x t s))

-- Whatever a subscriber shows, it took a grant, and no memory is refused to one that needs no copy. No copies lie ready.
pub record TakesGrant (x : SubscriberEvent) (named : Option What) (old : SlotValue) (t : ReplyValue) (new : SlotValue) : Type 0 where
  pub grants : (s : SubscriberSlot) → SlotShows old s → Grants s x t named new
  pub frugal : (s : SubscriberSlot) → SlotShows old s → refusal by_arrivals by_numbers s.own x ≡ None → NeedsNone old.subscriber x → t ≢ refused NoMemory
  pub none : HasNone new

pub record GrantsAt (u : ℕ) (x : SubscriberEvent) (t : ReplyValue) (slots : SubscriberSlots) (entries : List (ℕ × SlotValue)) : Type 0 where
  pub may : GrantMay (slot_of u slots) x t
  pub shows : Related SlotShows entries (at_slot u (with_note (audited.Grant, code_of t)) (at_slot u (moved x t) slots))

-- events that are offered to all subscribers
abbrev pub IsForAll : Event → Type 0
IsForAll (event.DropPmu key) = Unit {0}
IsForAll (event.Announce config) = Unit {0}
IsForAll (event.Measure frame) = Unit {0}
IsForAll (event.Tick soc) = Unit {0}
IsForAll _ = ⊥

-- events whose copies of a PMU's configuration or block may be needed or not
abbrev pub MayCopy : GatewayEvent → Type 0
MayCopy (grant u key) = Unit {0}
MayCopy (measure m) = Unit {0}
MayCopy _ = ⊥
