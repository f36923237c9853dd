use Rattle.std.proofs.Common.{◌≡◌, drop}
use Rattle.pg_limits.specs.Layouts.{are_apart}
use Rattle.pg_limits.proofs.layouts.are_apart.Given as goal

-- so far each length was another than all behind it
abbrev pub invariant-loop-at : goal.invariant-loop-at
invariant-loop-at l = are_apart l.lengths ≡ are_apart (drop l.at l.lengths)
