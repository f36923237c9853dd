use Rattle.std.proofs.Common.{◌≡◌, ◌+◌, ◌≤◌, length}
use Rattle.pg_align.specs.Slots.{all_leaving}
use Rattle.pg_session.specs.Streams.{slot_frame}
use Rattle.pg_session.specs.Fields.{AreTimed}
use Rattle.pg_session.proofs.Departing.{LeftSoFar}
use Rattle.pg_session.proofs.leaving.leave_each.Given as goal

abbrev pub invariant-loop-left : goal.invariant-loop-left
invariant-loop-left l =
    LeftSoFar (slot_frame l.definition l.listed) (all_leaving l.fn.align) (all_leaving l.align) l.fn.output l.output
    × (length l.align.effective ≡ length l.definition.members)
    × AreTimed l.definition.rate l.align.slots
    × (l.output.kept ≤ l.output.made)
    × (l.output.made + length l.align.slots ≤ l.fn.output.made + length l.fn.align.slots)

abbrev pub decreases-loop-left : goal.decreases-loop-left
decreases-loop-left l = length l.align.slots
