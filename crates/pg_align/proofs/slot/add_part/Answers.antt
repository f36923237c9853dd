use Rattle.std.proofs.Common.{◌≡◌, ◌<◌, length, arith}
use Rattle.std.proofs.lemmas.List.{map-set, with_items_is}
use Rattle.pg_align.specs.Fields.{slot_of, slots_of}
use Rattle.pg_align.proofs.Parts.{slot_shown, set_shown}
use Rattle.pg_align.proofs.Counting.{put_counted, counted-at, counted-set}
use Rattle.pg_align.proofs.slot.add_part.Goals as goal

pub put_part-requires : goal.put_part-requires
put_part-requires c =
    let x = c.index_mut-slot.result.now in
    let within : c.args.at < length c.args.slots.now.items = omega (arith, c.requires.within, c.args.slots.now.ok.0) in
    let shown = slot_shown c.args.slots.now.items c.args.at x within c.index_mut-slot.ensures.value in
    let small = c.requires.places (slot_of x) shown in
    rw (c.deref_mut.ensures.value) small

pub returns-clause-kept : goal.returns-clause-kept
returns-clause-kept c t slot e =
    let x = c.index_mut-slot.result.now in
    let within : c.args.at < length c.args.slots.now.items = omega (arith, c.requires.within, c.args.slots.now.ok.0) in
    let shown = slot_shown c.args.slots.now.items c.args.at x within c.index_mut-slot.ensures.value in
    let same : slot_of x ≡ slot = cc in
    let put = rw (c.deref_mut.ensures.value) at (c.put_part.ensures.kept c.if-not-put_part.false) in
    let fits : length c.put_part.new.parts ≡ x.parts.len = omega (arith, c.put_part.auto.parts, c.deref_mut.ensures.len) in
    let written = with_items_is x.parts c.put_part.new.parts fits in
    (rw (← same) put.0, rw (map-set slot_of, written, put.1, ← same))

pub returns-clause-counted : goal.returns-clause-counted
returns-clause-counted c effective h t =
    let x = c.index_mut-slot.result.now in
    let within : c.args.at < length c.args.slots.now.items = omega (arith, c.requires.within, c.args.slots.now.ok.0) in
    let shown = slot_shown c.args.slots.now.items c.args.at x within c.index_mut-slot.ensures.value in
    let small = c.requires.places (slot_of x) shown in
    let put = rw (c.deref_mut.ensures.value) at (c.put_part.ensures.kept c.if-not-put_part.false) in
    let fits : length c.put_part.new.parts ≡ x.parts.len = omega (arith, c.put_part.auto.parts, c.deref_mut.ensures.len) in
    let written = with_items_is x.parts c.put_part.new.parts fits in
    let counted = counted-at effective c.args.slots.now.items c.args.at x h within c.index_mut-slot.ensures.value in
    counted-set effective c.args.slots.now.items c.args.at _ h (rw (written, put.1, c.saturating_sub-slot.ensures) (put_counted effective x.parts.items c.args.place c.args.part x.missing counted t small put.0))

pub returns-then-not-put_part-clause-twice : goal.returns-then-not-put_part-clause-twice
returns-then-not-put_part-clause-twice c t =
    let x = c.index_mut-slot.result.now in
    let within : c.args.at < length c.args.slots.now.items = omega (arith, c.requires.within, c.args.slots.now.ok.0) in
    let shown = slot_shown c.args.slots.now.items c.args.at x within c.index_mut-slot.ensures.value in
    let put = c.put_part.ensures.twice c.if-not-put_part.true in
    let fits : length c.put_part.new.parts ≡ x.parts.len = omega (arith, c.put_part.auto.parts, c.deref_mut.ensures.len) in
    let written = with_items_is x.parts c.put_part.new.parts fits in (
      rw (map-set slot_of, written, put.1, c.deref_mut.ensures.value) (set_shown (slots_of c.args.slots.now.items) c.args.at (slot_of x) shown),
      λ slot e. let same : slot_of x ≡ slot = cc in rw (← same) (rw (c.deref_mut.ensures.value) at put.0),
    )

pub returns-then-not-put_part-clause-counted : goal.returns-then-not-put_part-clause-counted
returns-then-not-put_part-clause-counted c effective h t =
    let x = c.index_mut-slot.result.now in
    let within : c.args.at < length c.args.slots.now.items = omega (arith, c.requires.within, c.args.slots.now.ok.0) in
    let put = c.put_part.ensures.twice c.if-not-put_part.true in
    let fits : length c.put_part.new.parts ≡ x.parts.len = omega (arith, c.put_part.auto.parts, c.deref_mut.ensures.len) in
    let written = with_items_is x.parts c.put_part.new.parts fits in
    let counted = counted-at effective c.args.slots.now.items c.args.at x h within c.index_mut-slot.ensures.value in
    counted-set effective c.args.slots.now.items c.args.at _ h (rw (written, put.1, c.deref_mut.ensures.value) counted)
