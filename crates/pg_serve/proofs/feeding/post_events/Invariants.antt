use Rattle.std.proofs.Common.{length}
use Rattle.pg_ingest.specs.Shown as ingest
use Rattle.pg_ingest.specs.Shown.{LinkPast}
use Rattle.pg_gateway.specs.State.{SharedMachine}
use Rattle.pg_gateway.specs.Shown.{GatewayShows}
use Rattle.pg_serve.specs.Inputs.{all_noted}
use Rattle.pg_serve.specs.Feeding.{Tells}
use Rattle.pg_serve.proofs.feeding.post_events.Given as goal

abbrev pub invariant-loop-config : goal.invariant-loop-config
invariant-loop-config l = (S : SharedMachine) (past : LinkPast) → GatewayShows l.fn.gateway S → ingest.ShowsLink l.fn.link past
    → Tells S past (all_noted l.fn.notes.items) (all_noted l.notes.items) l.gateway l.link

abbrev pub decreases-loop-config : goal.decreases-loop-config
decreases-loop-config l = length l.link.bytes.held
