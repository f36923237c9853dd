use Rattle.std.proofs.Common.{◌≡◌, Bool, List, take, drop, map}
use Rattle.pg_align.specs.Slots.{one_tick_less}
use Rattle.pg_align.specs.Fields.{slots_of, AreCounted}
use Rattle.pg_align.proofs.slot.tick_all.Given as goal

abbrev pub invariant-loop-slot : goal.invariant-loop-slot
invariant-loop-slot l = record {
  done : slots_of (take l.slot-index l.slots) ≡ map one_tick_less (slots_of (take l.slot-index l.fn.slots));
  same : drop l.slot-index l.slots ≡ drop l.slot-index l.fn.slots;
  counted : (effective : List Bool) → AreCounted effective l.fn.slots → AreCounted effective l.slots;
}
