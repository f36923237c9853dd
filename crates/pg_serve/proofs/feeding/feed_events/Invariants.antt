use Rattle.std.proofs.Common.{◌≤◌, ◌-◌, length, take}
use Rattle.pg_ingest.specs.Shown as ingest
use Rattle.pg_ingest.specs.Shown.{LinkPast, feeding}
use Rattle.pg_gateway.specs.State.{SharedMachine}
use Rattle.pg_gateway.specs.Shown.{GatewayShows}
use Rattle.pg_serve.specs.Inputs.{all_noted}
use Rattle.pg_serve.specs.Feeding.{Tells}
use Rattle.pg_serve.proofs.feeding.feed_events.Given as goal

abbrev pub invariant-loop-broken : goal.invariant-loop-broken
invariant-loop-broken l = record {
  sent : l.sent ≤ length l.bytes;
  told : (S : SharedMachine) (past : LinkPast) → GatewayShows l.fn.gateway S → ingest.ShowsLink l.fn.link past
      → Tells S (feeding past (take l.sent l.bytes)) (all_noted l.fn.notes.items) (all_noted l.notes.items) l.gateway l.link;
}

abbrev pub decreases-loop-broken : goal.decreases-loop-broken
decreases-loop-broken l = length l.bytes - l.sent
