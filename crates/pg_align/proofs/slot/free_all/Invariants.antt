use Rattle.std.proofs.Common.{ℕ, ◌≡◌, ◌+◌, length, vec_capacity}
use Rattle.pg_align.specs.Slots.{AreFree, HavePlaces}
use Rattle.pg_align.specs.Fields.{slots_of}
use Rattle.pg_align.proofs.slot.free_all.Given as goal

abbrev pub invariant-loop-slot : goal.invariant-loop-slot
invariant-loop-slot l = record {
  each : length l.slots.items + length l.spare.items ≡ length l.fn.slots.items + length l.fn.spare.items;
  free : (places : ℕ) → AreFree places (slots_of l.fn.spare.items) → HavePlaces places (slots_of l.fn.slots.items) → AreFree places (slots_of l.spare.items) × HavePlaces places (slots_of l.slots.items);
  slots_room : vec_capacity l.slots ≡ vec_capacity l.fn.slots;
  spare_room : vec_capacity l.spare ≡ vec_capacity l.fn.spare;
}

abbrev pub decreases-loop-slot : goal.decreases-loop-slot
decreases-loop-slot l = length l.slots.items
