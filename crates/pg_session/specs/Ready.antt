-- What an event asks of the subscriber that takes it, and the copies that are to lie ready for it.
use Rattle.std.specs.Prelude.{◌≡◌, ◌≢◌, ◌++◌, ◌<◌, ◌≤◌, ℕ, suc, IsTrue, IfSome, List, [], ◌∷◌, length, drop, map, Option, Some, None, Result, Ok, Err}
use Rattle.std.specs.Arc.{arc_value}
use Rattle.pg_wire.specs.declared.ids.PmuKey.{PmuKey}
use Rattle.pg_config.specs.Parts.{Part, block_id}
use Rattle.pg_data.specs.Pieces.{Piece}
use Rattle.pg_entitle.specs.Grants.{has_key}
use Rattle.pg_outcfg.specs.Listing.{Listing, config_at}
use Rattle.pg_session.specs.Events.{SubscriberEvent, Announcing, Sample, config_of, subscriber_event, grant, announce, measure}
use Rattle.pg_session.specs.declared.event.PrivateEvent.{PrivateEvent}
use Rattle.pg_session.specs.declared.event.PrivateEvent.TheVariants as private
use Rattle.pg_session.specs.declared.event.PrivateReply.{PrivateReply}
use Rattle.pg_session.specs.declared.event.PrivateReply.TheVariants as reply
use Rattle.pg_ring.specs.declared.queue.Drained.{Drained}
use Rattle.pg_wire.specs.declared.refusal.Refusal.{Refusal}
use Rattle.pg_session.specs.Wanted.{all_wanted, granted_wanted}
use Rattle.pg_session.specs.Shown.{Own, SubscriberValue}

-- places below n that rise, none below `least`
abbrev pub AreRising : ℕ → ℕ → List ℕ → Type 0
AreRising least n [] = Unit {0}
AreRising least n (i ∷ places) = (least ≤ i) × (i < n) × AreRising (suc i) n places

-- Places of some of a frame's n blocks, in the frame's order.
pub record ArePlaces (n : ℕ) (places : List ℕ) : Type 0 where
  pub some : 0 < length places
  pub rising : AreRising 0 n places

-- announcements of PMUs that are granted
abbrev pub AreOwn : List PmuKey → List Announcing → Type 0
AreOwn grants [] = Unit {0}
AreOwn grants (a ∷ list) = IsTrue (has_key grants a.key) × AreOwn grants list

-- blocks of PMUs that are granted, each read by the configuration that is listed for it
abbrev pub AreHeld : List PmuKey → Listing → List Sample → Type 0
AreHeld grants listed [] = Unit {0}
AreHeld grants listed (s ∷ samples) = IsTrue (has_key grants s.key) × (config_at listed s.key ≡ Some s.config) × AreHeld grants listed samples

-- the blocks of a frame that an event speaks of
abbrev pub IsPlaced : PrivateEvent → Type 0
IsPlaced (private.Announce config places) = ArePlaces (length config.now.parts) places.now
IsPlaced (private.Measure frame places) = ArePlaces (length (arc_value frame.now).config.parts) places.now
IsPlaced _ = Unit {0}

-- An announcement is of granted PMUs alone; so is a measurement, by the configurations listed for them; and what a granted
-- PMU has announced is of that PMU.
abbrev pub IsFor : Own → SubscriberEvent → Type 0
IsFor own (announce list) = AreOwn own.grants list
IsFor own (measure soc quality frac samples) = AreHeld own.grants own.listed samples
IsFor own (grant key config) = IfSome config (λ c. block_id c.block ≡ key.pmu)
IsFor own _ = Unit {0}

-- The subscriber takes the event.
pub record Accepts (v : SubscriberValue) (e : PrivateEvent) : Type 0 where
  pub placed : IsPlaced e
  pub own : IsFor v.own (subscriber_event e)

-- the copies of blocks that an event asks for: for each stream that is on, of each block that is a member's
abbrev pub blocks_wanted : Own → SubscriberEvent → List Piece
blocks_wanted own (measure soc quality frac samples) = all_wanted own.streams quality samples
blocks_wanted own _ = []

-- the copies of configurations that an event asks for
abbrev pub configs_wanted : Own → SubscriberEvent → List Part
configs_wanted own (announce list) = map config_of list
configs_wanted own (grant key config) = granted_wanted own.grants key config
configs_wanted own _ = []

-- From place `next` on these copies lie there, and then the rest from place `after` on; or they do not.
abbrev pub GoesOn : {X : Type 0} → List X → ℕ → List X → Option ℕ → Type 0
GoesOn items next pieces (Some after) = (drop next items ≡ pieces ++ drop after items) × (after ≤ length items)
GoesOn {X = X} items next pieces None = (rest : List X) → drop next items ≢ pieces ++ rest

-- Just the copies that the event asks for lie ready.
pub record IsReady (v : SubscriberValue) (e : SubscriberEvent) : Type 0 where
  pub blocks : v.blocks ≡ blocks_wanted v.own e
  pub configs : v.configs ≡ configs_wanted v.own e

-- The event needs no copy.
pub record NeedsNone (v : SubscriberValue) (e : SubscriberEvent) : Type 0 where
  pub blocks : blocks_wanted v.own e ≡ []
  pub configs : configs_wanted v.own e ≡ []

-- what was handed out: nothing, where the drain is refused
abbrev pub handed_len : Result Drained Refusal → ℕ
handed_len (Ok out) = out.len
handed_len (Err r) = 0

-- a reply without a buffer
abbrev pub IsPlain : PrivateReply → Type 0
IsPlain (reply.Done made kept) = Unit {0}
IsPlain (reply.Refused r) = Unit {0}
IsPlain (reply.Drained buf out) = ⊥

-- the buffer comes back as long as it was, and past what was handed out as it was
abbrev pub ReturnsBuffer : List ℕ → PrivateReply → Type 0
ReturnsBuffer bytes (reply.Drained back out) =
    (handed_len out ≤ length bytes) × (length back.items ≡ length bytes) × (drop (handed_len out) back.items ≡ drop (handed_len out) bytes)
ReturnsBuffer bytes (reply.Done made kept) = ⊥
ReturnsBuffer bytes (reply.Refused r) = ⊥

-- Just a drain is answered with its buffer.
abbrev pub KeepsBuffer : PrivateEvent → PrivateReply → Type 0
KeepsBuffer (private.Drain buf) r = ReturnsBuffer buf.items r
KeepsBuffer _ r = IsPlain r
