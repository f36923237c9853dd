use Rattle.std.proofs.Common.{◌≡◌, vec_len, ◌≤◌, ◌+◌, vec_capacity}
use Rattle.std.specs.Vec.Iter.{into_iter_len}
use Rattle.pg_shared.proofs.work.run_workers.Given as goal

abbrev pub invariant-loop-handle : goal.invariant-loop-handle
invariant-loop-handle g l =
    (goal.iterator-loop-handle g).can_next l.handle-iterator × (goal.iterator-loop-handle g).is_finite l.handle-iterator
    × (vec_len l.back + into_iter_len l.handle-iterator ≡ vec_len l.fn.workers) × (vec_len l.fn.workers ≤ vec_capacity l.back)
