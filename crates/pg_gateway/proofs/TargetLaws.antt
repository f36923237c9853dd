-- A gateway always shows a state that events can have left.
use Rattle.std.proofs.Common.{[], None, refl}
use Rattle.pg_registry.proofs.Staying.{apart-none}
use Rattle.pg_gateway.specs.GatewayEvents.{GatewayEvent, Answer}
use Rattle.pg_gateway.specs.State.{opening, next}
use Rattle.pg_gateway.specs.Shown.{GatewayValue, Goes}
use Rattle.pg_gateway.specs.Consistent.{IsReached, IsPosted}
use Rattle.pg_gateway.proofs.NextLaws.{next_stays}

pub reached_first : IsReached (record { pmus = []; subs = []; last_tick = None })
reached_first = record {
  state = opening;
  shows = record { pmus = refl; subs = tt; last_tick = refl };
  consistent = record { registered = apart-none; keyed = tt; agree = tt };
}

pub reached_then : (old new : GatewayValue) (e : GatewayEvent) (a : Answer) → IsReached old → IsPosted e → Goes old e a new → IsReached new
reached_then old new e a reached posted goes =
    let steps = goes reached.state reached.shows in
    record {
      state = next reached.state e a;
      shows = steps.shows;
      consistent = next_stays reached.state e a reached.consistent posted steps.may;
    }
