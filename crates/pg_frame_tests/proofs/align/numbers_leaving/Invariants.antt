use Rattle.std.proofs.Common.{◌≡◌, ◌++◌, length, map}
use Rattle.pg_align.specs.Histories.{slot_left}
use Rattle.pg_align.specs.Slots.{all_leaving}
use Rattle.pg_frame_tests.proofs.align.numbers_leaving.Given as goal

abbrev pub invariant-loop-left : goal.invariant-loop-left
invariant-loop-left l = record {
  frames : l.numbers.items ++ map slot_left (all_leaving l.align).frames ≡ map slot_left (all_leaving l.fn.align).frames;
  after : (all_leaving l.align).after ≡ (all_leaving l.fn.align).after;
}

abbrev pub decreases-loop-left : goal.decreases-loop-left
decreases-loop-left l = length l.align.slots
