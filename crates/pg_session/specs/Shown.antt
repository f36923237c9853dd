-- What the code keeps of a subscriber, what it shows of the private gateway, and one step of the two.
use Rattle.std.specs.Prelude.{◌≡◌, ℕ, Bool, false, List, [], ◌∷◌, length, Option}
use Rattle.pg_config.specs.Parts.{Part}
use Rattle.pg_data.specs.Pieces.{Piece}
use Rattle.pg_audit.specs.Counting.{no_stats}
use Rattle.pg_align.specs.Histories.{StreamHistory}
use Rattle.pg_align.specs.Slots.{Aligned}
use Rattle.pg_align.specs.Shown as align
use Rattle.pg_ring.specs.Shown.{Queue}
use Rattle.pg_ring.specs.Numbers as ring
use Rattle.pg_ring.specs.Numbers.{Numbered, none_made}
use Rattle.pg_session.specs.Events.{SubscriberEvent}
use Rattle.pg_session.specs.Streams.{StreamOf}
use Rattle.pg_session.specs.Private.{Private, ReplyValue, May, next}
use Rattle.pg_session.specs.ByAll.{by_arrivals, by_numbers}

-- the private gateway by all arrivals and all frames ever made
abbrev pub Model : Type 0
Model = Private (StreamHistory Piece) Numbered

-- the same by open slots and queued frames
abbrev pub Own : Type 0
Own = Private (Aligned Piece) Queue

-- What is kept of a subscriber: its own state, and the copies that lie ready for the next event: blocks of a measurement,
-- configurations of an announcement or a grant.
pub record SubscriberValue : Type 0 where
  pub own : Own
  pub blocks : List Piece
  pub configs : List Part

-- a subscriber that was just added: ring size, ring bytes, and the last tick or none
abbrev pub begin : ℕ → ℕ → Option ℕ → Model
begin size limit last =
    record {
      connected = false;
      grants = [];
      listed = [];
      streams = [];
      output = record { queue = none_made size limit; stats = no_stats };
      last_tick = last;
      definitions = 0;
    }

pub record StreamShows (s : StreamOf (Aligned Piece)) (t : StreamOf (StreamHistory Piece)) : Type 0 where
  pub definition : s.definition ≡ t.definition
  pub slots : align.Shows s.slots t.slots
  pub places : length s.slots.effective ≡ length s.definition.members
  pub count : s.count ≡ t.count
  pub layouts : s.layouts ≡ t.layouts

-- each stream shows one
abbrev pub StreamsShow : List (StreamOf (Aligned Piece)) → List (StreamOf (StreamHistory Piece)) → Type 0
StreamsShow [] [] = Unit {0}
StreamsShow (s ∷ ss) (t ∷ ts) = StreamShows s t × StreamsShow ss ts
StreamsShow [] (t ∷ ts) = ⊥
StreamsShow (s ∷ ss) [] = ⊥

pub record OwnShows (v : Own) (p : Model) : Type 0 where
  pub connected : v.connected ≡ p.connected
  pub grants : v.grants ≡ p.grants
  pub listed : v.listed ≡ p.listed
  pub streams : StreamsShow v.streams p.streams
  pub queue : ring.ShowsNumbered v.output.queue p.output.queue
  pub stats : v.output.stats ≡ p.output.stats
  pub last_tick : v.last_tick ≡ p.last_tick
  pub definitions : v.definitions ≡ p.definitions

-- The value shows this state. Copies that lie ready are no part of it.
abbrev pub ShowsPrivate : SubscriberValue → Model → Type 0
ShowsPrivate v p = OwnShows v.own p

-- This reply may come to the event in this state, and the value then shows the state's successor.
pub record Follows (p : Model) (e : SubscriberEvent) (lost : Bool) (r : ReplyValue) (v : SubscriberValue) : Type 0 where
  pub may : May by_arrivals by_numbers p e lost r
  pub shows : ShowsPrivate v (next by_arrivals by_numbers p e r)

-- Whatever state the value shows before the event, the reply follows from that state.
abbrev pub Takes : SubscriberValue → SubscriberEvent → Bool → ReplyValue → SubscriberValue → Type 0
Takes old e lost r new = (p : Model) → ShowsPrivate old p → Follows p e lost r new
