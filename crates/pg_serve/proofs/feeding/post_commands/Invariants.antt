use Rattle.std.proofs.Common.{ℕ, List, length}
use Rattle.pg_session.specs.Commands as session
use Rattle.pg_gateway.specs.State.{SharedMachine}
use Rattle.pg_gateway.specs.Shown.{GatewayShows}
use Rattle.pg_serve.specs.Inputs.{all_noted}
use Rattle.pg_serve.specs.Feeding.{Hears}
use Rattle.pg_serve.proofs.feeding.post_commands.Given as goal

abbrev pub invariant-loop-command : goal.invariant-loop-command
invariant-loop-command l = (S : SharedMachine) (stream : List ℕ) (given : List session.Item) → GatewayShows l.fn.gateway S → session.ShowsHearing l.fn.session stream given
    → Hears S l.sub stream given (all_noted l.fn.notes.items) (all_noted l.notes.items) l.gateway l.session

abbrev pub decreases-loop-command : goal.decreases-loop-command
decreases-loop-command l = length l.session.bytes.held
