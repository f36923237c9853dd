-- Which events take no memory, so that none of them is refused for want of it.
use Rattle.std.specs.Prelude.{◌≡◌, ℕ, nat_eq, false, List, [], ◌∷◌, Option, Some, None, IfSome}
use Rattle.std.specs.Map.{lookup}
use Rattle.pg_wire.specs.declared.refusal.Refusal.TheVariants.{NoMemory}
use Rattle.pg_registry.specs.Registered.{config_in}
use Rattle.pg_session.specs.Events as own
use Rattle.pg_session.specs.Private as private
use Rattle.pg_session.specs.Private.{refused}
use Rattle.pg_session.specs.Events.{SubscriberEvent}
use Rattle.pg_session.specs.Shown.{SubscriberValue}
use Rattle.pg_session.specs.Ready.{NeedsNone}
use Rattle.pg_gateway.specs.GatewayEvents.{GatewayEvent, add_pmu, add_sub, grant, asks, announce, measure, Answer, tells}
use Rattle.pg_gateway.specs.Sharing.{Broadcast, measures, share}
use Rattle.pg_gateway.specs.Judging.{taken_of}
use Rattle.pg_gateway.specs.State.{SharedMachine, refusal}
use Rattle.pg_gateway.specs.Shown.{SlotValue, GatewayValue, GatewayShows}

-- each subscriber is so
abbrev pub AllSlots : (SlotValue → Type 0) → List (ℕ × SlotValue) → Type 0
AllSlots P [] = Unit {0}
AllSlots P (e ∷ entries) = P e.1 × AllSlots P entries

-- what happens, if anything, needs no copy
abbrev pub NeedsNoCopy : SubscriberValue → Option SubscriberEvent → Type 0
NeedsNoCopy v None = Unit {0}
NeedsNoCopy v (Some x) = NeedsNone v x

-- the subscriber's share of this needs no copy
abbrev pub Spares : Broadcast → SlotValue → Type 0
Spares o v = NeedsNoCopy v.subscriber (share o v.subscriber.own.grants)

-- The event needs no copy and fills nothing new. A grant needs none of a PMU that is granted already or has announced nothing; a
-- measurement none where no block that was taken is a member's of an on stream of a subscriber that it is granted to.
abbrev pub NeedsNoMemory : GatewayValue → GatewayEvent → Type 0
NeedsNoMemory v (grant u key) = IfSome (lookup (nat_eq u) v.subs) (λ s. NeedsNone s.subscriber (own.grant key (config_in v.pmus key)))
NeedsNoMemory v (measure m) = AllSlots (Spares (measures m.soc m.quality m.frac (taken_of v.pmus v.last_tick m))) v.subs
NeedsNoMemory v (asks u x) = private.takes_memory x ≡ false
NeedsNoMemory v (add_pmu key) = ⊥
NeedsNoMemory v (add_sub u size bytes) = ⊥
NeedsNoMemory v (announce config) = ⊥
NeedsNoMemory v _ = Unit {0}

-- Where no other refusal holds, such an event is not refused for want of memory.
abbrev pub Frugal : GatewayValue → GatewayEvent → Answer → Type 0
Frugal v e a = (S : SharedMachine) → GatewayShows v S → refusal S e ≡ None → NeedsNoMemory v e → a ≡ tells (refused NoMemory) → ⊥
