-- A session since the Connect of its seat, and of two services.
use Rattle.std.specs.Prelude.{◌≡◌, ◌≢◌, ℕ, List, [], ◌∷◌, ◌++◌, length, Option}
use Rattle.pg_turn.specs.Known.{Known}
use Rattle.pg_session.specs.Events.{connect}
use Rattle.pg_session.specs.Commands.{Hearing}
use Rattle.pg_gateway.specs.declared.event.Event.{Event}
use Rattle.pg_gateway.specs.declared.event.Reply.{Reply}
use Rattle.pg_gateway.specs.GatewayEvents.{gateway_event, asks}
use Rattle.pg_gateway.specs.State.{opening}
use Rattle.pg_gateway.specs.Histories.{Legal}
use Rattle.pg_gateway.specs.Laws.{after, answers_of}
use Rattle.pg_gateway.specs.Views.{ViewEvent, takes, view, AllLossless}
use Rattle.pg_shared.specs.Sharing.{Call, history_of}
use Rattle.pg_shared.specs.Onward.{calls_in}
use Rattle.pg_shared.specs.Delivery.{events_in, OwnDrains, Delivers, HasHeard}

-- a seat once others made these calls, and then it made this one
abbrev pub going_on : Known Event Reply → List Call → Call → Known Event Reply
going_on v between call = record {
  table = v.table;
  seen = (v.seen ++ between) ++ call ∷ [];
  own = v.own ++ length (v.seen ++ between) ∷ [];
}

-- The seat posted that u connects: behind all that it had seen, and behind what others did since.
pub record Connects (u : ℕ) (v w : Known Event Reply) : Type 0 where
  pub between : List Call
  pub call : Call
  pub asks : gateway_event call.0 ≡ asks u connect
  pub seat : w ≡ going_on v between call
  pub legal : Legal opening (history_of w.seen)

-- All that a session did from the Connect on that the seat posted for it. There is one legal history, which begins with all that the
-- seat had seen before, goes on with that Connect, and is what the seat has seen now. Where no answer of it reports a loss or want of
-- memory, and none but this seat drained u from that Connect on: what was written, followed by what is left to write, is what the
-- private gateway of u's view of the history hands out from that Connect on. And from there on the seat's own places are just the
-- commands of all bytes that were read, beside that u is drained and hangs up.
pub record SinceConnect (u : ℕ) (session : Hearing) (v v' : Known Event Reply) (r r' w w' : Option (List ℕ)) : Type 0 where
  pub start : Known Event Reply
  pub connects : Connects u v start
  pub legal : Legal opening (history_of v'.seen)
  pub delivers : Delivers u start v' [] session.left w w'
  pub heard : HasHeard u session start v' r r'

-- ---- two services

-- Nothing of this is a Connect.
abbrev pub SeesNoConnect : List ViewEvent → Type 0
SeesNoConnect [] = Unit {0}
SeesNoConnect (x ∷ xs) = (x ≢ takes connect) × SeesNoConnect xs

-- By u's view of the history the calls before end with a Connect of u, and it sees none in those since: it is the last one.
pub record ConnectsLast (u : ℕ) (before since : List Call) : Type 0 where
  pub earlier : List ViewEvent
  pub there : view u opening (events_in before) ≡ earlier ++ takes connect ∷ []
  pub last : SeesNoConnect (view u (after (events_in before)) (events_in since))

-- In each of two services a session of u was served since its Connect. Where no answer of either history reports a loss or want of
-- memory, and in each none but its seat drained u since: if u's views of the two histories are equal, and in each that Connect is the
-- last that u sees, then both sockets were given the same bytes, those that are left to write among them. So it is too where instead
-- u's views of the histories up to these Connects are equal.
pub record ViewsDecide (u : ℕ) (session other : Hearing) (s s' t t' : Known Event Reply)
    (r r' w w' q q' x x' : Option (List ℕ)) : Type 0 where
  pub one : SinceConnect u session s s' r r' w w'
  pub two : SinceConnect u other t t' q q' x x'
  pub last : AllLossless (answers_of (history_of s'.seen)) → OwnDrains u one.delivers.since
      → AllLossless (answers_of (history_of t'.seen)) → OwnDrains u two.delivers.since
      → ConnectsLast u one.start.seen (calls_in one.delivers.since) → ConnectsLast u two.start.seen (calls_in two.delivers.since)
      → view u opening (events_in s'.seen) ≡ view u opening (events_in t'.seen)
      → one.delivers.out ++ session.left ≡ two.delivers.out ++ other.left
  pub alike : AllLossless (answers_of (history_of s'.seen)) → OwnDrains u one.delivers.since
      → AllLossless (answers_of (history_of t'.seen)) → OwnDrains u two.delivers.since
      → view u opening (events_in one.start.seen) ≡ view u opening (events_in two.start.seen)
      → view u opening (events_in s'.seen) ≡ view u opening (events_in t'.seen)
      → one.delivers.out ++ session.left ≡ two.delivers.out ++ other.left
