use Rattle.std.proofs.Common.{ℕ, Bool, List, Option, true, false, length-set, ◌≡◌, length, replicate, Some, None, ap, refl, arith, sym, ◌∙◌}
use Rattle.std.specs.Prelude.{IsTrue, if◌then◌else◌}
use Rattle.std.proofs.lemmas.Grind.{common_steps}
use Rattle.pg_data.specs.Pieces.{Piece}
use Rattle.pg_align.specs.Histories.{is_above}
use Rattle.pg_align.specs.declared.answer.Arrived.{Arrived}
use Rattle.std.proofs.lemmas.List.{length-map, map_push, length-replicate}
use Rattle.pg_align.specs.Slots.{OpenSlot, StandsAt, fresh_slot}
use Rattle.pg_align.specs.Fields.{AreAbove, slot_of, slots_of}
use Rattle.pg_align.proofs.Kept.{AreAbove-at, AreAbove-with_part, HavePlaces-at, HavePlaces-with_part, AreFree-last, AreRising-with_part}
use Rattle.pg_align.proofs.Arriving.{with_part_here, with_part_new}
use Rattle.pg_align.proofs.Counting.{none_came, none_there}
use Rattle.pg_align.proofs.slot.add_arrival.Goals as goal

by_result : {P : Type 0} (b : Bool) → (IsTrue b → P) → (b ≡ false → P) → P
by_result true f g = f refl
by_result false f g = g refl

-- a fresh slot has all places
long_fresh : {X : Type 0} (slot wait places place : ℕ) (part : X) → length (fresh_slot slot wait places place part).parts ≡ places
long_fresh slot wait places place part = length-set (replicate places None) place (Some part) ∙ length-replicate places None

told_kept : (b : Bool) → (if b then Arrived.Kept else Arrived.Twice) ≡ Arrived.Kept → IsTrue b
told_kept true e = refl
told_kept false e = absurd cc

told_twice : (b : Bool) → (if b then Arrived.Kept else Arrived.Twice) ≡ Arrived.Twice → b ≡ false
told_twice true e = absurd cc
told_twice false e = refl

-- a slot that stands among those that are open comes after the last one that left
after : (last : Option ℕ) (slot : ℕ) (slots : List (OpenSlot Piece)) {at : ℕ} → AreAbove last slots → StandsAt slot slots at → is_above last slot ≡ true
after last slot slots {at} h stands = rw (← stands.same) (AreAbove-at last slots at stands.here h stands.found)

pub place_of-requires : goal.place_of-requires
place_of-requires c = record { rising = rw c.deref.ensures.value c.requires.rising }

pub add_part-requires-clause-places : goal.add_part-requires-clause-places
add_part-requires-clause-places c slot e =
    rw (HavePlaces-at c.args.opening.places (slots_of c.args.slots.now.items) c.in-Ok.at slot c.requires.places e) c.requires.place

pub returns-in-Ok-clause-kept : goal.returns-in-Ok-clause-kept
returns-in-Ok-clause-kept c is =
    let t = told_kept c.add_part.result (rw c.told.ensures at is) in
    let stands = rw c.deref.ensures.value at c.in-Ok.ensures.stands in
    let kept = c.add_part.ensures.kept t stands.here stands.found in
    let fresh = fresh_slot c.args.slot c.args.opening.wait c.args.opening.places c.args.place c.args.part in
    let found = rw stands.place at stands.found in
    let here = with_part_here fresh c.args.place c.args.part (slots_of c.args.slots.now.items) stands.here found stands.same in
    (after c.args.opening.last c.args.slot (slots_of c.args.slots.now.items) c.requires.above stands, here.1 ∙ kept.0, (rw stands.place at kept.1) ∙ sym here.0)

pub returns-in-Ok-clause-twice : goal.returns-in-Ok-clause-twice
returns-in-Ok-clause-twice c is =
    let t = told_twice c.add_part.result (rw c.told.ensures at is) in
    let stands = rw c.deref.ensures.value at c.in-Ok.ensures.stands in
    let twice = c.add_part.ensures.twice t in
    let fresh = fresh_slot c.args.slot c.args.opening.wait c.args.opening.places c.args.place c.args.part in
    let found = rw stands.place at stands.found in
    let here = with_part_here fresh c.args.place c.args.part (slots_of c.args.slots.now.items) stands.here found stands.same in
    (after c.args.opening.last c.args.slot (slots_of c.args.slots.now.items) c.requires.above stands, rw here.1 (twice.1 stands.here stands.found), twice.0)

pub returns-in-Ok-clause-places : goal.returns-in-Ok-clause-places
returns-in-Ok-clause-places c =
    by_result c.add_part.result
    (λ t. rw ((returns-in-Ok-clause-kept c (rw (c.told.ensures, t) refl)).2) (HavePlaces-with_part c.args.opening.places _ c.args.place _ _ c.requires.places (long_fresh c.args.slot c.args.opening.wait c.args.opening.places c.args.place c.args.part)))
    (λ t. rw ((returns-in-Ok-clause-twice c (rw (c.told.ensures, t) refl)).2) c.requires.places)

pub returns-in-Ok-clause-rising : goal.returns-in-Ok-clause-rising
returns-in-Ok-clause-rising c =
    by_result c.add_part.result
    (λ t. rw ((returns-in-Ok-clause-kept c (rw (c.told.ensures, t) refl)).2) (AreRising-with_part _ c.args.place _ _ c.requires.rising))
    (λ t. rw ((returns-in-Ok-clause-twice c (rw (c.told.ensures, t) refl)).2) c.requires.rising)

pub returns-in-Ok-clause-above : goal.returns-in-Ok-clause-above
returns-in-Ok-clause-above c =
    let stands = rw c.deref.ensures.value at c.in-Ok.ensures.stands in
    let high = after c.args.opening.last c.args.slot (slots_of c.args.slots.now.items) c.requires.above stands in
    by_result c.add_part.result
    (λ t. rw ((returns-in-Ok-clause-kept c (rw (c.told.ensures, t) refl)).2) (AreAbove-with_part c.args.opening.last _ c.args.place _ _ high c.requires.above))
    (λ t. rw ((returns-in-Ok-clause-twice c (rw (c.told.ensures, t) refl)).2) c.requires.above)

pub open_slot-requires-clause-place : goal.open_slot-requires-clause-place
open_slot-requires-clause-place c =
    let free = AreFree-last c.args.opening.places (slots_of c.pop.new.self.items) (slot_of c.in-Some.fresh) (rw (c.in-Some.ensures.items, map_push slot_of) at c.requires.free) in
    let long = ap length free.1 in
    let many = rw length-replicate at long in
    omega (arith, many, c.in-Some.fresh.parts.ok.0, c.requires.place)

pub returns-clause-kept : goal.returns-clause-kept
returns-clause-kept c t =
    let free = AreFree-last c.args.opening.places (slots_of c.pop.new.self.items) (slot_of c.in-Some.fresh) (rw (c.in-Some.ensures.items, map_push slot_of) at c.requires.free) in
    let fresh = fresh_slot c.args.slot c.args.opening.wait c.args.opening.places c.args.place c.args.part in
    let away = rw c.deref.ensures.value at c.in-Err.ensures.away in
    let new = with_part_new fresh c.args.place c.args.part (slots_of c.args.slots.now.items) (away.1 ∙ sym (length-map c.args.slots.now.items slot_of)) in
    let opened = rw (away.0, free.1) at c.open_slot.ensures.slots in
    let high : is_above c.args.opening.last c.args.slot ≡ true = grind (arith, common_steps) in
    (high, new.1, opened ∙ sym new.0)

pub returns-clause-places : goal.returns-clause-places
returns-clause-places c =
    rw ((returns-clause-kept c refl).2) (HavePlaces-with_part c.args.opening.places _ c.args.place _ _ c.requires.places (long_fresh c.args.slot c.args.opening.wait c.args.opening.places c.args.place c.args.part))

pub returns-clause-rising : goal.returns-clause-rising
returns-clause-rising c =
    rw ((returns-clause-kept c refl).2) (AreRising-with_part _ c.args.place _ _ c.requires.rising)

pub returns-clause-above : goal.returns-clause-above
returns-clause-above c =
    rw ((returns-clause-kept c refl).2) (AreAbove-with_part c.args.opening.last _ c.args.place _ _ ((returns-clause-kept c refl).0) c.requires.above)

pub returns-clause-free : goal.returns-clause-free
returns-clause-free c =
    (AreFree-last c.args.opening.places (slots_of c.pop.new.self.items) (slot_of c.in-Some.fresh) (rw (c.in-Some.ensures.items, map_push slot_of) at c.requires.free)).0

pub returns-clause-counted : goal.returns-clause-counted
returns-clause-counted c effective h m t =
    let free = AreFree-last c.args.opening.places (slots_of c.pop.new.self.items) (slot_of c.in-Some.fresh) (rw (c.in-Some.ensures.items, map_push slot_of) at c.requires.free) in
    c.open_slot.ensures.counted effective h (rw free.1 (m ∙ sym (none_came effective c.args.opening.places))) t (rw free.1 (none_there c.args.opening.places c.args.place))
