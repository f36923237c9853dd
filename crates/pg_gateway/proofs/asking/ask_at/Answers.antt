use Rattle.std.proofs.Common.{nat_eq, Some, sym}
use Rattle.pg_session.specs.Events.{subscriber_event}
use Rattle.pg_session.specs.Private.{told}
use Rattle.pg_gateway.specs.Shown.{SlotShows}
use Rattle.pg_gateway.specs.Taking.{HasNone}
use Rattle.pg_gateway.proofs.RelatedLaws.{lookup-none, lookup-some}
use Rattle.pg_gateway.proofs.OneLaws.{slots-lookup, slots-set_value, nobody_takes, one_takes}
use Rattle.pg_gateway.proofs.asking.ask_at.Goals as goal

pub ask-requires-clause-none : goal.ask-requires-clause-none
ask-requires-clause-none c = slots-lookup HasNone (nat_eq c.args.sub) c.args.subs.now.entries c.in-Some.slot.now c.requires.none (sym c.in-Some.ensures.value)

pub returns-in-None-clause-takes : goal.returns-in-None-clause-takes
returns-in-None-clause-takes c = λ slots h.
    let none = lookup-none SlotShows (nat_eq c.args.sub) c.args.subs.now.entries slots h (sym c.in-None.ensures.value) in
    rw c.get_mut.follows.holds-at-none (nobody_takes c.args.sub (subscriber_event c.args.event) slots c.args.subs.now.entries h none)

pub returns-in-Some-clause-takes : goal.returns-in-Some-clause-takes
returns-in-Some-clause-takes c = λ slots h.
    let found = lookup-some SlotShows (nat_eq c.args.sub) c.in-Some.slot.now c.args.subs.now.entries slots h (sym c.in-Some.ensures.value) in
    let wrote = c.get_mut.follows.holds c.ask.new.self in
    rw wrote.0 (one_takes c.args.sub (subscriber_event c.args.event) (told c.ask.result) (Some c.args.what) slots c.args.subs.now.entries c.in-Some.slot.now c.ask.new.self found.0
    c.requires.noted h (sym c.in-Some.ensures.value) found.1 (c.ask.ensures.takes found.0 found.2).may (λ s shown. (c.ask.ensures.takes s shown).shows))

pub returns-in-Some-clause-none : goal.returns-in-Some-clause-none
returns-in-Some-clause-none c =
    let wrote = c.get_mut.follows.holds c.ask.new.self in
    rw wrote.0 (slots-set_value HasNone (nat_eq c.args.sub) c.args.subs.now.entries c.ask.new.self c.requires.none c.ask.ensures.none)
