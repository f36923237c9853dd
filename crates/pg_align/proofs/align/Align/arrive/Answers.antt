use Rattle.std.proofs.Common.{◌≡◌, ◌<◌, ◌≤◌, ◌∙◌, true, length, refl, arith}
use Rattle.pg_align.specs.Fields.{slots_of}
use Rattle.pg_align.specs.Slots.{fresh_slot, others_than}
use Rattle.pg_align.specs.declared.answer.Arrived.{Arrived}
use Rattle.pg_align.specs.declared.answer.Arrived.TheVariants.{Kept, Late, Twice}
use Rattle.pg_align.proofs.Parts.{effective_within}
use Rattle.pg_align.proofs.Arriving.{others-with_part}
use Rattle.pg_align.proofs.Histories.{Shows-arrival}
use Rattle.pg_align.proofs.Keeping.{taken_back, kept_arrival}
use Rattle.pg_align.proofs.align.Align.arrive.Goals as goal

by_answer : {P : Type 0} (r : Arrived) → (r ≡ Arrived.Kept → P) → (r ≡ Arrived.Late → P) → (r ≡ Arrived.Twice → P) → P
by_answer Kept k l t = k refl
by_answer Late k l t = l refl
by_answer Twice k l t = t refl

pub invariant_of-self : goal.invariant_of-self
invariant_of-self c =
    let a = c.self.inside in
    let k = c.self.invariant in
    let back = taken_back a c.take_back.new.lent c.take_back.new.spare k c.take_back.ensures.none c.take_back.ensures.len c.take_back.ensures.free c.take_back.ensures.capacity in
    let added = c.add_arrival-arrived.ensures in
    let on : a.is_on ≡ true = rw (← c.self.view_is) at c.requires.on in
    let many = c.len.ensures ∙ c.self.inside.effective.ok.0 in
    let counted = added.counted a.effective.items k.counted k.wanted (rw (← c.self.view_is) at c.requires.effective) in
    kept_arrival a c.take_back.new.lent c.add_arrival-arrived.new.slots c.take_back.new.spare c.add_arrival-arrived.new.spare c.count_if_late.new.self k back on added.count added.capacity.0 added.capacity.1 (rw many at added.places) added.rising added.above counted (rw many at added.free)

pub add_arrival-arrived-requires : goal.add_arrival-arrived-requires
add_arrival-arrived-requires c =
    let a = c.self.inside in
    let k = c.self.invariant in
    let back = taken_back a c.take_back.new.lent c.take_back.new.spare k c.take_back.ensures.none c.take_back.ensures.len c.take_back.ensures.free c.take_back.ensures.capacity in
    let few : others_than c.args.slot (slots_of a.slots.items) ≤ a.window = rw (← c.self.view_is) at c.requires.room in
    let inside : c.args.place < length a.effective.items = rw (← c.self.view_is) at (effective_within c.args.self.now.effective c.args.place c.requires.effective) in
    let many = c.len.ensures ∙ c.self.inside.effective.ok.0 in
    record {
      above = k.above;
      room = omega (arith, few, k.slots_room);
      spare = omega (arith, few, k.all_slots, back.len);
      place = rw many inside;
      places = rw many k.slots_places;
      rising = k.rising;
      free = rw many back.free;
    }

pub returns-clause-answer : goal.returns-clause-answer
returns-clause-answer c =
    let added = c.add_arrival-arrived.ensures in
    by_answer c.add_arrival-arrived.result
    (λ e. rw (← c.self.view_is, (added.kept e).0, (added.kept e).1) e)
    (λ e. rw (← c.self.view_is, (added.late e).0) e)
    (λ e. rw (← c.self.view_is, (added.twice e).0, (added.twice e).1) e)

pub returns-clause-shown : goal.returns-clause-shown
returns-clause-shown c =
    let added = c.add_arrival-arrived.ensures in
    let many = c.len.ensures ∙ c.self.inside.effective.ok.0 in
    by_answer c.add_arrival-arrived.result
    (λ e. rw (← c.self.view_is, c.count_if_late.ensures, e, (added.kept e).0, (added.kept e).1, rw many at (added.kept e).2) refl)
    (λ e. rw (← c.self.view_is, c.count_if_late.ensures, e, (added.late e).0, (added.late e).1) refl)
    (λ e. rw (← c.self.view_is, c.count_if_late.ensures, e, (added.twice e).0, (added.twice e).1, (added.twice e).2) refl)

pub returns-clause-room : goal.returns-clause-room
returns-clause-room c =
    let a = c.self.inside in
    let fresh = fresh_slot c.args.slot a.wait c.len.result c.args.place c.args.block in
    by_answer c.add_arrival-arrived.result
    (λ e. rw (← c.self.view_is, (c.add_arrival-arrived.ensures.kept e).2) (others-with_part fresh c.args.place c.args.block (slots_of a.slots.items)))
    (λ e. rw (← c.self.view_is, (c.add_arrival-arrived.ensures.late e).1) refl)
    (λ e. rw (← c.self.view_is, (c.add_arrival-arrived.ensures.twice e).2) refl)

pub returns-clause-history : goal.returns-clause-history
returns-clause-history c h s =
    let within = effective_within c.args.self.now.effective c.args.place c.requires.effective in
    let seen = Shows-arrival c.args.self.now h c.args.slot c.args.place c.args.block s c.requires.on within in
    (returns-clause-answer c ∙ seen.0, rw (returns-clause-shown c) seen.1)
