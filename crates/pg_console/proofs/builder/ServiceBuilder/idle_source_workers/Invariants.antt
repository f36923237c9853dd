use Rattle.std.proofs.Common.{◌≡◌}
use Rattle.pg_console.proofs.builder.ServiceBuilder.idle_source_workers.Given as goal

abbrev pub invariant-pollers : goal.invariant-pollers
invariant-pollers g l =
    (goal.iterator-pollers g).can_next l.poller-iterator ×
    (goal.iterator-pollers g).is_finite l.poller-iterator ×
    (l.rest ≡ l.fn.seat)
