use Rattle.std.proofs.Common.{◌≡◌}
use Rattle.pg_align.proofs.Looking.{counted_to}
use Rattle.pg_align.proofs.counts.count_missing.Given as goal

-- so many members are counted, and the counts of the others are as they were
abbrev pub invariant-loop-place : goal.invariant-loop-place
invariant-loop-place l = l.missing ≡ counted_to l.place l.effective l.parts l.initial.missing
