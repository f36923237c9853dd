use Rattle.std.proofs.Common.{◌≡◌, ◌++◌, map, take, drop}
use Rattle.pg_limits.specs.Connections.{forgotten}
use Rattle.pg_limits.proofs.known_layouts.KnownLayouts.forget_others.Given as goal

-- so many of the streams are done, and the others are as they were
abbrev pub invariant-loop-entry : goal.invariant-loop-entry
invariant-loop-entry l = l.entry-items ≡ map (forgotten l.found) (take l.entry-index l.initial.entry-items) ++ drop l.entry-index l.initial.entry-items
