-- Who posts what.
use Rattle.std.specs.Prelude.{◌≡◌, ◌⊎◌, ◌&&◌, ℕ, Bool, true, false, not, List, [], ◌∷◌, All, Option, Some, None}
use Rattle.std.specs.Option.{option_map_or}
use Rattle.pg_session.specs.Events.{SubscriberEvent}
use Rattle.pg_data.specs.Measurements.{Measurement, resolution}
use Rattle.pg_limits.specs.Clocks.{is_ahead, is_near}
use Rattle.pg_session.specs.declared.standing.MemberPlace.{MemberPlace}
use Rattle.pg_gateway.specs.GatewayEvents.{GatewayEvent, Answer, add_pmu, drop_pmu, add_sub, drop_sub, grant, asks, announce, measure, tick, standing, inquires}
use Rattle.pg_gateway.specs.Posting.{IsMeasured, Posted, Notes}
use Rattle.pg_service.specs.declared.metered_gate.ClockCheck.{ClockCheck}

-- a data frame, where an event is one
abbrev pub frame_in : GatewayEvent → Option Measurement
frame_in (measure m) = Some m
frame_in _ = None

-- A data frame's time, SOC + numerator / resolution, is near enough to this machine's clock, and not too far ahead of the reference,
-- as far as there are such limits.
abbrev pub is_timely : ClockCheck → Measurement → Bool
is_timely g m =
    option_map_or (λ near. is_near near.limit g.clock m.soc m.frac (resolution m.config)) g.guards.near true
    && not (option_map_or (λ ahead. is_ahead ahead.limit g.reference m.soc m.frac (resolution m.config)) g.guards.ahead false)

-- A guarded gate takes all events but the data frames that are not timely.
abbrev pub takes_by : ClockCheck → GatewayEvent → Bool
takes_by g o = option_map_or (is_timely g) (frame_in o) true

-- the same of a guard before a gate that takes these
abbrev pub passes : ClockCheck → (GatewayEvent → Bool) → GatewayEvent → Bool
passes g takes o = takes_by g o && takes o

-- what is not taken is a data frame
pub frames_passed : (g : ClockCheck) (takes : GatewayEvent → Bool) → ((o : GatewayEvent) → takes o ≡ false → IsMeasured o) → (o : GatewayEvent)
    → passes g takes o ≡ false → IsMeasured o
frames_passed g takes frames (measure m) e = tt
frames_passed g takes frames (add_pmu key) e = frames (add_pmu key) e
frames_passed g takes frames (drop_pmu key) e = frames (drop_pmu key) e
frames_passed g takes frames (add_sub u size bytes) e = frames (add_sub u size bytes) e
frames_passed g takes frames (drop_sub u) e = frames (drop_sub u) e
frames_passed g takes frames (grant u key) e = frames (grant u key) e
frames_passed g takes frames (asks u h) e = frames (asks u h) e
frames_passed g takes frames (announce config) e = frames (announce config) e
frames_passed g takes frames (tick soc) e = frames (tick soc) e
frames_passed g takes frames (inquires q) e = frames (inquires q) e

-- It was asked of this subscriber, or how a stream of it stands.
abbrev pub IsOf : ℕ → Posted → Type 0
IsOf sub p = ((h : SubscriberEvent) × (p.0 ≡ asks sub h)) ⊎ ((place : MemberPlace) × (p.0 ≡ inquires (standing sub place)))

-- What was posted meanwhile is of this subscriber alone, where the gate tells it.
pub record OwnOnly (sub : ℕ) (before after : Option (List Posted)) : Type 0 where
  pub more : List Posted
  pub noted : Notes before after more
  pub own : All (IsOf sub) more

-- Just this was asked of this subscriber meanwhile, where the gate tells it.
abbrev pub Asks : ℕ → SubscriberEvent → Option (List Posted) → Option (List Posted) → Type 0
Asks sub h before after = (a : Answer) × Notes before after ((asks sub h, a) ∷ [])
