use Rattle.std.proofs.Common.{◌≡◌, ◌+◌, ◌-◌, length, arith}
use Rattle.std.proofs.lemmas.List.{with_items_is}
use Rattle.std.proofs.lemmas.Grind.{common_steps}
use Rattle.pg_align.proofs.Kept.{AreBeforeLent-cleared, AreBeforeLent-last}
use Rattle.pg_align.proofs.slot.give_back.Goals as goal

pub returns-clause-free : goal.returns-clause-free
returns-clause-free c places h =
    let slots = c.args.spare.now.items in
    let x = c.index_mut-slot.result.now in
    let last : (length slots - 1) + 1 ≡ length slots = grind (arith, common_steps, c.is_empty.ensures, c.if-is_empty.false) in
    let at : c.len-last.result - 1 ≡ length slots - 1 = grind (arith, common_steps, c.len-last.ensures) in
    let long = AreBeforeLent-last places slots (length slots - 1) x h last (rw (← at) c.index_mut-slot.ensures.value) in
    let fits : length c.clear_parts.new.parts ≡ x.parts.len = omega (arith, c.clear_parts.auto.parts, c.deref_mut.ensures.len) in
    let written = with_items_is x.parts c.clear_parts.new.parts fits in
    rw at (AreBeforeLent-cleared places slots (length slots - 1) _ h last (rw (written, c.clear_parts.ensures, c.deref_mut.ensures.value, long)))
