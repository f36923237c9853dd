use Rattle.std.proofs.Common.{◌<◌, ◌-◌, length, arith}
use Rattle.std.proofs.lemmas.Grind.{common_steps}
use Rattle.pg_align.specs.Fields.{slot_of, slots_of}
use Rattle.pg_align.proofs.Parts.{slot_shown}
use Rattle.pg_align.proofs.Arriving.{count_here}
use Rattle.pg_align.proofs.slot.place_of.Goals as goal

pub returns-then-slots-newest-clause-stands : goal.returns-then-slots-newest-clause-stands
returns-then-slots-newest-clause-stands c =
    let slots = c.args.slots.now in
    let newest = c.index-slots-newest.result in
    let within : length slots - 1 < length slots = grind (arith, common_steps, c.is_empty.ensures, c.if-is_empty.false) in
    let found = slot_shown slots (length slots - 1) newest within c.index-slots-newest.is in
    let same = rw (← c.index-slots-newest.is) at c.if-slots-newest.true in
    record { here = slot_of newest; found = found; same = same; place = count_here c.args.number (slots_of slots) (length slots - 1) (slot_of newest) c.requires.rising found same }
