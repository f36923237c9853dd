use Rattle.std.proofs.Common.{ℕ, List, ◌++◌, ◌≤◌, ◌-◌, length, take}
use Rattle.pg_session.specs.Commands as session
use Rattle.pg_gateway.specs.State.{SharedMachine}
use Rattle.pg_gateway.specs.Shown.{GatewayShows}
use Rattle.pg_serve.specs.Inputs.{all_noted}
use Rattle.pg_serve.specs.Feeding.{Hears}
use Rattle.pg_serve.proofs.feeding.feed_session.Given as goal

abbrev pub invariant-loop-broken : goal.invariant-loop-broken
invariant-loop-broken l = record {
  sent : l.sent ≤ length l.bytes;
  heard : (S : SharedMachine) (stream : List ℕ) (given : List session.Item) → GatewayShows l.fn.gateway S → session.ShowsHearing l.fn.session stream given
      → Hears S l.sub (stream ++ take l.sent l.bytes) given (all_noted l.fn.notes.items) (all_noted l.notes.items) l.gateway l.session;
}

abbrev pub decreases-loop-broken : goal.decreases-loop-broken
decreases-loop-broken l = length l.bytes - l.sent
