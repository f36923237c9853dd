-- What is kept of the gateway, what it shows of the shared machine, and one step of the two.
use Rattle.std.specs.Prelude.{◌≡◌, ◌≤◌, ℕ, Bool, false, nat_lt, List, length, Option, Some, None}
use Rattle.pg_ring.specs.Shown.{frames_to_leave}
use Rattle.pg_registry.specs.Registered.{Pmus}
use Rattle.pg_audit.specs.Noting as audit
use Rattle.pg_audit.specs.Noting.{AuditValue}
use Rattle.pg_session.specs.Shown as session
use Rattle.pg_session.specs.Shown.{SubscriberValue}
use Rattle.pg_gateway.specs.GatewayEvents.{GatewayEvent, Answer}
use Rattle.pg_gateway.specs.Sharing.{SubscriberSlot}
use Rattle.pg_gateway.specs.State.{SharedMachine, May, next}
use Rattle.pg_gateway.specs.Related.{Related}

-- A subscriber with its audit, and whether it is spared the event that is under way, which does not concern it.
pub record SlotValue : Type 0 where
  pub subscriber : SubscriberValue
  pub audit : AuditValue
  pub spared : Bool

-- whether something waits to be handed out to a subscriber, who may not be there
abbrev pub slot_waits : Option SlotValue → Bool
slot_waits None = false
slot_waits (Some v) = nat_lt 0 (frames_to_leave v.subscriber.own.output.queue)

pub record GatewayValue : Type 0 where
  pub pmus : Pmus
  pub subs : List (ℕ × SlotValue)
  pub last_tick : Option ℕ

-- at most 256 registered PMUs and 64 subscribers
abbrev pub IsWithinLimits : GatewayValue → Type 0
IsWithinLimits v = (length v.pmus ≤ 256) × (length v.subs ≤ 64)

-- The value shows this subscriber.
pub record SlotShows (v : SlotValue) (s : SubscriberSlot) : Type 0 where
  pub subscriber : session.ShowsPrivate v.subscriber s.own
  pub audit : audit.ShowsAudit v.audit s.noted

-- The value shows this state.
pub record GatewayShows (v : GatewayValue) (S : SharedMachine) : Type 0 where
  pub pmus : v.pmus ≡ S.pmus
  pub subs : Related SlotShows v.subs S.subs
  pub last_tick : v.last_tick ≡ S.last_tick

-- This answer may come to the event in this state, and the value then shows the state's successor.
pub record Steps (S : SharedMachine) (e : GatewayEvent) (a : Answer) (v : GatewayValue) : Type 0 where
  pub may : May S e a
  pub shows : GatewayShows v (next S e a)

-- Whatever state the value shows before the event, the answer follows from that state.
abbrev pub Goes : GatewayValue → GatewayEvent → Answer → GatewayValue → Type 0
Goes old e a new = (S : SharedMachine) → GatewayShows old S → Steps S e a new
