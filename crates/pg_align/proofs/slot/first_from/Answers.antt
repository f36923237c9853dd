use Rattle.std.proofs.Common.{◌<◌, ◌-◌, length, arith}
use Rattle.std.proofs.lemmas.List.{length-map}
use Rattle.pg_align.specs.Fields.{slot_of, slots_of}
use Rattle.pg_align.proofs.Parts.{slot_shown}
use Rattle.pg_align.proofs.Arriving.{count_at_most, count_at_most_all, count_more}
use Rattle.pg_align.proofs.slot.first_from.Goals as goal

pub loop-place-init : goal.loop-place-init
loop-place-init c =
    let slots = c.args.slots.now in
    record {
      within = omega arith;
      past = rw length-map at (count_at_most_all c.args.number (slots_of slots));
    }

pub loop-place-preserved : goal.loop-place-preserved
loop-place-preserved c =
    let slots = c.args.slots.now in
    let here = c.index-slots-place.result in
    let within : c.loop-place.place - 1 < length slots = omega (arith, c.loop-place-test.true, c.loop-place.invariant.within) in
    let shown = slot_shown slots (c.loop-place.place - 1) here within c.index-slots-place.is in
    record {
      within = omega (arith, within);
      past = count_at_most c.args.number (slots_of slots) (c.loop-place.place - 1) (slot_of here) shown (rw (← c.index-slots-place.is) at c.if-slots-place.true);
    }

pub returns-else-slots-place-clause-place : goal.returns-else-slots-place-clause-place
returns-else-slots-place-clause-place c =
    let slots = c.args.slots.now in
    let here = c.index-slots-place.result in
    let within : c.loop-place.place - 1 < length slots = omega (arith, c.loop-place-test.true, c.loop-place.invariant.within) in
    let shown = slot_shown slots (c.loop-place.place - 1) here within c.index-slots-place.is in
    let more = count_more c.args.number (slots_of slots) (c.loop-place.place - 1) (slot_of here) c.requires.rising shown (rw (← c.index-slots-place.is) at c.if-slots-place.false) in
    omega (arith, more, c.loop-place.invariant.past, c.loop-place-test.true)
