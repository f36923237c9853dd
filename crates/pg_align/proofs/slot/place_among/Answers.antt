use Rattle.std.proofs.Common.{◌≤◌, ◌≡◌, ℕ, length, ap, ◌∙◌}
use Rattle.std.proofs.lemmas.List.{length-map}
use Rattle.std.proofs.lemmas.Option.{slice_get_past}
use Rattle.pg_align.specs.Slots.{OpenSlot}
use Rattle.pg_align.specs.Fields.{slot_of, slots_of}
use Rattle.pg_align.proofs.Parts.{slot_shown}
use Rattle.pg_align.proofs.Arriving.{IsAway, count_here, others_away}
use Rattle.pg_align.proofs.slot.place_among.Goals as goal
use Rattle.pg_align.proofs.slot.place_among.Goals.{else-at-slots-via-then-at-slots+else-slots-at, else-at-slots-via-else-at-slots}

pub returns-then-slots-at-clause-stands : goal.returns-then-slots-at-clause-stands
returns-then-slots-at-clause-stands c = record {
  here = slot_of c.index-slots-at.result;
  found = slot_shown c.args.slots.now c.first_from-at.result c.index-slots-at.result c.if-at-slots.true c.index-slots-at.is;
  same = rw (← c.index-slots-at.is) at c.if-slots-at.true;
  place = c.first_from-at.ensures.place;
}

abbrev number_of : {X : Type 0} → OpenSlot X → ℕ
number_of slot = slot.slot

pub returns-else-at-slots-clause-away : goal.returns-else-at-slots-clause-away
returns-else-at-slots-clause-away c =
    let slots = c.args.slots.now in
    let away : IsAway c.args.number (slots_of slots) = λ here e s.
    elim c.else-at-slots.branch [
      | else-at-slots-via-then-at-slots+else-slots-at w ↦
          let shown = slot_shown slots c.first_from-at.result w.index-slots-at.result w.if-at-slots.true w.index-slots-at.is in
          let at = rw c.first_from-at.ensures.place at shown in
          let same : slot_of w.index-slots-at.result ≡ here = cc in
          (rw (← w.index-slots-at.is) at w.if-slots-at.false) (ap number_of same ∙ s)
      | else-at-slots-via-else-at-slots w ↦
          let past : length (slots_of slots) ≤ c.first_from-at.result = rw length-map w.if-at-slots.false in
          let none = slice_get_past (slots_of slots) c.first_from-at.result past in
          let at = rw c.first_from-at.ensures.place at none in
          cc
    ] in
    (c.first_from-at.ensures.place, rw length-map at (others_away c.args.number (slots_of slots) c.requires.rising away))

pub returns-then-slots-guess-clause-stands : goal.returns-then-slots-guess-clause-stands
returns-then-slots-guess-clause-stands c =
    let slots = c.args.slots.now in
    let guess = c.index-slots-guess.result in
    let at = c.place_without_gap-guess.result in
    let found = slot_shown slots at guess c.if-guess-slots.true c.index-slots-guess.is in
    let same = rw (← c.index-slots-guess.is) at c.if-slots-guess.true in
    record { here = slot_of guess; found = found; same = same; place = count_here c.args.number (slots_of slots) at (slot_of guess) c.requires.rising found same }
