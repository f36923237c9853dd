-- One step of what is kept of a subscriber.
use Rattle.std.specs.Prelude.{◌≡◌, ◌≤◌, Bool, []}
use Rattle.pg_session.specs.Events.{SubscriberEvent}
use Rattle.pg_session.specs.Private.{ReplyValue, done, refused, handed, May, next}
use Rattle.pg_session.specs.Kept.{by_slots, by_gaps}
use Rattle.pg_session.specs.Shown.{SubscriberValue}

-- This reply may come to the event, and the state is then its successor.
pub record Steps (old : SubscriberValue) (e : SubscriberEvent) (lost : Bool) (r : ReplyValue) (new : SubscriberValue) : Type 0 where
  pub may : May by_slots by_gaps old.own e lost r
  pub state : new.own ≡ next by_slots by_gaps old.own e r

-- an event makes at most 80 data frames for each of 8 streams, and keeps no more than it makes
abbrev pub MakesFew : ReplyValue → Type 0
MakesFew (done made kept) = (kept ≤ made) × (made ≤ 640)
MakesFew (refused r) = Unit {0}
MakesFew (handed bytes begun gap) = Unit {0}

-- no copies lie ready
pub record HasNoCopies (v : SubscriberValue) : Type 0 where
  pub blocks : v.blocks ≡ []
  pub configs : v.configs ≡ []
