use Rattle.std.proofs.Common.{◌≡◌, ◌+◌, ◌≤◌, length, drop}
use Rattle.pg_outcfg.specs.Frames.{effective_of}
use Rattle.pg_session.proofs.standing.count_effective.Given as goal

abbrev pub invariant-loop-key : goal.invariant-loop-key
invariant-loop-key l =
    (l.effective ≤ l.key-index)
    × (l.effective + length (effective_of l.listed (drop l.key-index l.members)) ≡ length (effective_of l.listed l.members))
