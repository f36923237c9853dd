use Rattle.std.proofs.Common.{◌≡◌, ◌++◌, map, take, drop}
use Rattle.pg_limits.specs.Windows.{noted}
use Rattle.pg_limits.proofs.known_layouts.KnownLayouts.note.Given as goal

-- so many of the streams are done, and the others are as they were
abbrev pub invariant-loop-entry : goal.invariant-loop-entry
invariant-loop-entry l = l.entry-items ≡ map (noted l.served) (take l.entry-index l.initial.entry-items) ++ drop l.entry-index l.initial.entry-items
