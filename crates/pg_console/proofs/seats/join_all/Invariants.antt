use Rattle.std.proofs.Common.{◌≡◌}
use Rattle.std.specs.Vec.Iter.{into_iter_items}
use Rattle.pg_console.specs.Joining.{Place, Joins}
use Rattle.pg_console.proofs.seats.join_all.Given as goal

-- Whatever the others give, with them joined too all are.
abbrev pub invariant-workers : goal.invariant-workers
invariant-workers g l =
    (goal.iterator-workers g).can_next l.worker-iterator ×
    (goal.iterator-workers g).is_finite l.worker-iterator ×
    (l.joined.table ≡ l.fn.seat.table) ×
    ((end : Place) → Joins g.W.HoldsSeat.gives l.joined (into_iter_items l.worker-iterator) end
    → Joins g.W.HoldsSeat.gives l.fn.seat l.fn.workers.items end)
