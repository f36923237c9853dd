use Rattle.std.proofs.Common.{◌≤◌, length}
use Rattle.pg_align.specs.Slots.{count_below}
use Rattle.pg_align.specs.Fields.{slots_of}
use Rattle.pg_align.proofs.slot.first_from.Given as goal

abbrev pub invariant-loop-place : goal.invariant-loop-place
invariant-loop-place l = record { within : l.place ≤ length l.slots; past : count_below l.number (slots_of l.slots) ≤ l.place }

abbrev pub decreases-loop-place : goal.decreases-loop-place
decreases-loop-place l = l.place
