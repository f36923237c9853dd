-- The state of each subscriber in memory. The headline does not need it: it speaks of queues, bytes and counts.
use Rattle.std.specs.Prelude.{ℕ, nat_eq, List, Option, Some, None}
use Rattle.std.specs.Map.{lookup}
use Rattle.pg_session.specs.Shown.{Model}
use Rattle.pg_session.specs.Shown as session
use Rattle.pg_gateway.specs.Views.{private_run}
use Rattle.pg_gateway.specs.Shown.{SlotValue}
use Rattle.pg_serve.specs.Inputs.{InputValue}
use Rattle.pg_serve.specs.Shown.{WorldValue}
use Rattle.pg_serve.specs.Full.{view_of}

-- a subscriber, or none, is what a private gateway is, or none
abbrev pub OwnShows : Option SlotValue → Option Model → Type 0
OwnShows None None = Unit {0}
OwnShows (Some v) (Some p) = session.ShowsPrivate v.subscriber p
OwnShows None (Some p) = ⊥
OwnShows (Some v) None = ⊥

-- Each subscriber is what a private gateway makes of its view of the inputs alone.
pub record OwnStates (w : WorldValue) (inputs : List InputValue) : Type 0 where
  pub own : (u : ℕ) → OwnShows (lookup (nat_eq u) w.gateway.subs) (private_run None (view_of u inputs))
