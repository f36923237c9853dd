-- A subscriber that has connected, and the place where it connects.
use Rattle.std.specs.Prelude.{◌≡◌, ℕ, Bool, true, false, ◌&&◌, if◌then◌else◌, List, [], ◌∷◌, Option, Some, None, is_some}
use Rattle.pg_wire.specs.declared.refusal.Refusal.{Refusal}
use Rattle.pg_wire.specs.declared.refusal.Refusal.TheVariants.{NoMemory}
use Rattle.pg_session.specs.Commands.{Hearing, Item, ShowsHearing, unheard}
use Rattle.pg_session.specs.Events.{connect, hangup}
use Rattle.pg_gateway.specs.declared.event.Reply.{Reply}
use Rattle.pg_gateway.specs.declared.event.Reply.TheVariants as reply
use Rattle.pg_gateway.specs.GatewayEvents.{asks, told}
use Rattle.pg_gateway.specs.Posting.{Posted, Notes}
use Rattle.pg_limits.specs.Hosts.{Net}
use Rattle.pg_limits.specs.declared.layouts.OnChange.{OnChange}
use Rattle.pg_subscribers.specs.declared.endpoint.Admission.{Admission}
use Rattle.pg_subscribers.specs.declared.endpoint.Admission.TheVariants.{Accepted, Refused}
use Rattle.pg_limits.specs.Timers.{Waited, connected, is_settled}
use Rattle.pg_service.specs.Posts.{Asks}

-- its session, and how long it is waited for
pub record Connected : Type 0 where
  pub session : Hearing
  pub timers : Waited

-- Some stream was fed to its session since it was new.
abbrev pub HasHeard : Hearing → Type 0
HasHeard h = (stream : List ℕ) × (given : List Item) × ShowsHearing h stream given

-- the place where a subscriber connects: which one, the hosts that may, whether a new connection takes the place of one that
-- stands, how long a subscriber that has connected may stall or be idle, what is done where the blocks of its streams change, and the
-- connection that stands
pub record EndpointState : Type 0 where
  pub sub : ℕ
  pub allow : Option (List Net)
  pub takeover : Bool
  pub stall : Option ℕ
  pub idle : Option ℕ
  pub change : OnChange
  pub connection : Option Connected

-- Where somebody is hung up it is asked once that the subscriber hangs up, else nothing is asked.
abbrev pub HungUp : Bool → ℕ → Option (List Posted) → Option (List Posted) → Type 0
HungUp true sub before after = Asks sub hangup before after
HungUp false sub before after = after ≡ before

-- With `takeover` a connection that stands for 5 seconds is hung up for a new one.
abbrev pub gives_way : ℕ → Option Connected → Bool
gives_way now None = false
gives_way now (Some v) = is_settled now v.timers

abbrev pub makes_room : ℕ → EndpointState → Bool
makes_room now d = d.takeover && gives_way now d.connection

abbrev pub with_room : ℕ → EndpointState → EndpointState
with_room now d = record d { connection = if makes_room now d then None else d.connection }

-- the door of a subscriber that connects now
abbrev pub with_connection : ℕ → EndpointState → EndpointState
with_connection now d = record d { connection = Some (record { session = unheard d.sub; timers = connected d.stall d.idle now }) }

-- why a connection is refused that the gateway answers so, if it is
abbrev pub refusal_of : Reply → Option Refusal
refusal_of (reply.Done made kept) = None
refusal_of (reply.Refused r) = Some r
refusal_of (reply.Drained buf out) = Some NoMemory
refusal_of (reply.Stats s) = Some NoMemory
refusal_of (reply.PmuStats s) = Some NoMemory
refusal_of (reply.Waiting subs) = Some NoMemory
refusal_of (reply.Audit e) = Some NoMemory
refusal_of (reply.Standing s) = Some NoMemory

-- what becomes of a connection that is refused for this, or not at all
abbrev pub admission_by : Option Refusal → ℕ → EndpointState → Admission
admission_by None now d = Accepted (is_some d.connection)
admission_by (Some r) now d = Refused r (makes_room now d)

abbrev pub endpoint_by : Option Refusal → ℕ → EndpointState → EndpointState
endpoint_by None now d = with_connection now d
endpoint_by (Some r) now d = with_room now d

-- Who stands in the way is hung up, then the connection is asked for, and it is the subscriber's just where that is done.
pub record Admits (now : ℕ) (d d' : EndpointState) (admit : Admission) (before after : Option (List Posted)) : Type 0 where
  pub room : Option (List Posted)
  pub hung : HungUp (makes_room now d) d.sub before room
  pub answer : Reply
  pub asked : Notes room after ((asks d.sub connect, told answer) ∷ [])
  pub becomes : admit ≡ admission_by (refusal_of answer) now d
  pub endpoint : d' ≡ endpoint_by (refusal_of answer) now d
