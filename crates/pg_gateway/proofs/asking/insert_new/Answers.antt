use Rattle.std.proofs.Common.{nat_eq, None, sym, subst, ◌∙◌}
use Rattle.indexmap.proofs.CallerLemmas.{insert_entry-new}
use Rattle.pg_audit.specs.declared.audit.What.TheVariants.{AddSub}
use Rattle.pg_gateway.specs.State.{with_note, added}
use Rattle.pg_gateway.specs.Shown.{SlotShows}
use Rattle.pg_gateway.specs.Taking.{HasNone}
use Rattle.pg_session.specs.Steps.{HasNoCopies}
use Rattle.pg_gateway.proofs.RelatedLaws.{Related-push}
use Rattle.pg_gateway.proofs.OneLaws.{slots-push}
use Rattle.pg_gateway.proofs.asking.insert_new.Goals as goal

pub returns-in-Ok-clause-added : goal.returns-in-Ok-clause-added
returns-in-Ok-clause-added c = λ slots h.
    rw (c.in-Ok.ensures.entries, insert_entry-new nat_eq c.args.subs.now c.args.sub c.note.new.self c.requires.new)
    (Related-push SlotShows c.args.sub c.note.new.self (with_note (AddSub, None) (added c.args.ring c.args.bytes c.args.last)) (c.note.ensures.shows _ c.in_ok-slot.ensures.shows) _ slots h)

pub returns-in-Ok-clause-none : goal.returns-in-Ok-clause-none
returns-in-Ok-clause-none c =
    rw (c.in-Ok.ensures.entries, insert_entry-new nat_eq c.args.subs.now c.args.sub c.note.new.self c.requires.new)
    (slots-push HasNone c.args.sub c.note.new.self _ c.requires.none (subst HasNoCopies (sym c.note.ensures.subscriber) c.in_ok-slot.ensures.none.0, c.note.ensures.spared ∙ c.in_ok-slot.ensures.none.1))
