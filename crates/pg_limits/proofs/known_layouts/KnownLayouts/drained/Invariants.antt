use Rattle.std.proofs.Common.{◌≡◌, ◌++◌, map, take, drop}
use Rattle.pg_limits.specs.Windows.{drained}
use Rattle.pg_limits.proofs.known_layouts.KnownLayouts.drained.Given as goal

-- so many of the streams are done, and the others are as they were
abbrev pub invariant-loop-entry : goal.invariant-loop-entry
invariant-loop-entry l = l.entry-items ≡ map (drained l.is_emptied) (take l.entry-index l.initial.entry-items) ++ drop l.entry-index l.initial.entry-items
