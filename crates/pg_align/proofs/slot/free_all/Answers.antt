use Rattle.std.proofs.Common.{◌≡◌, length, arith}
use Rattle.std.proofs.lemmas.List.{map_push, with_items_is}
use Rattle.pg_align.specs.Fields.{slot_of, slots_of}
use Rattle.pg_align.proofs.Kept.{AreFree-push, HavePlaces-last, kept_steps}
use Rattle.pg_align.proofs.slot.free_all.Goals as goal

pub loop-slot-preserved : goal.loop-slot-preserved
loop-slot-preserved c =
    let popped = c.in-Some.ensures.items in
    record {
      each = grind (arith, kept_steps);
      free = λ places f h.
          let before = c.loop-slot.invariant.free places f h in
          let last = HavePlaces-last places (slots_of c.pop.new.self.items) (slot_of c.in-Some.slot) (rw (popped, map_push slot_of) at before.1) in
          let fits : length c.clear_parts.new.parts ≡ c.in-Some.slot.parts.len = omega (arith, c.clear_parts.auto.parts, c.deref_mut.ensures.len) in
          let written = with_items_is c.in-Some.slot.parts c.clear_parts.new.parts fits in
          (rw (c.push_reserved.ensures.items, map_push slot_of) (AreFree-push places (slots_of c.loop-slot.spare.items) _ before.0 (rw (written, c.clear_parts.ensures, c.deref_mut.ensures.value, last.1))), last.0);
      slots_room = grind (arith, kept_steps);
      spare_room = grind (arith, kept_steps);
    }

pub returns-clause-free : goal.returns-clause-free
returns-clause-free c places f h = (c.loop-slot.invariant.free places f h).0
