use Rattle.std.proofs.Common.{◌≡◌, vec_len, ◌≤◌, ◌+◌, vec_capacity}
use Rattle.std.specs.Vec.Iter.{into_iter_len}
use Rattle.pg_shared.proofs.work.fn.run_workers.scope.Given as goal

abbrev pub invariant-loop-worker : goal.invariant-loop-worker
invariant-loop-worker g l =
    (goal.iterator-loop-worker g).can_next l.worker-iterator × (goal.iterator-loop-worker g).is_finite l.worker-iterator
    × (vec_len l.handles + into_iter_len l.worker-iterator ≡ into_iter_len l.initial.worker-iterator) × (into_iter_len l.initial.worker-iterator ≤ vec_capacity l.handles)
