use Rattle.std.proofs.Common.{nat_eq, sym, subst, ◌∙◌}
use Rattle.pg_gateway.specs.State.{with_note}
use Rattle.pg_gateway.specs.Shown.{SlotShows}
use Rattle.pg_gateway.specs.Taking.{HasNone}
use Rattle.pg_session.specs.Steps.{HasNoCopies}
use Rattle.pg_gateway.proofs.RelatedLaws.{lookup-none}
use Rattle.pg_gateway.proofs.OneLaws.{slots-lookup, slots-set_value, at_slot-none, Related-at_slot}
use Rattle.pg_gateway.proofs.asking.note_at.Goals as goal

pub returns-in-None-clause-notes : goal.returns-in-None-clause-notes
returns-in-None-clause-notes c = λ slots h.
    let none = lookup-none SlotShows (nat_eq c.args.sub) c.args.subs.now.entries slots h (sym c.in-None.ensures.value) in
    rw (c.get_mut.follows.holds-at-none, at_slot-none c.args.sub (with_note (c.args.what, c.args.code)) slots none) h

pub returns-in-Some-clause-notes : goal.returns-in-Some-clause-notes
returns-in-Some-clause-notes c = λ slots h.
    let wrote = c.get_mut.follows.holds c.note.new.self in
    rw wrote.0 (Related-at_slot SlotShows c.args.sub (with_note (c.args.what, c.args.code)) c.args.subs.now.entries slots c.in-Some.slot.now c.note.new.self h (sym c.in-Some.ensures.value) c.note.ensures.shows)

pub returns-in-Some-clause-none : goal.returns-in-Some-clause-none
returns-in-Some-clause-none c =
    let wrote = c.get_mut.follows.holds c.note.new.self in
    let had = slots-lookup HasNone (nat_eq c.args.sub) c.args.subs.now.entries c.in-Some.slot.now c.requires.none (sym c.in-Some.ensures.value) in
    rw wrote.0 (slots-set_value HasNone (nat_eq c.args.sub) c.args.subs.now.entries c.note.new.self c.requires.none (subst HasNoCopies (sym c.note.ensures.subscriber) had.0, c.note.ensures.spared ∙ had.1))
