use Rattle.std.proofs.Common.{◌≡◌, vec_len, vec_capacity}
use Rattle.pg_align.specs.Slots.{AreFree}
use Rattle.pg_align.specs.Fields.{slots_of}
use Rattle.pg_align.proofs.slot.free_slots.Given as goal

abbrev pub invariant-loop-slot : goal.invariant-loop-slot
invariant-loop-slot l = (AreFree l.places (slots_of l.slots.items)) × (vec_len l.slots ≡ l._slot) × (vec_capacity l.slots ≡ l.count)
