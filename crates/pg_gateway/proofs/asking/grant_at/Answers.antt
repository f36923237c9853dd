use Rattle.std.proofs.Common.{nat_eq, true, Some, refl, sym, ap, subst, ◌∙◌}
use Rattle.std.specs.Prelude.{option_map, IfSome}
use Rattle.std.specs.Arc.{arc_value}
use Rattle.pg_audit.specs.declared.audit.What.TheVariants as audited
use Rattle.pg_wire.specs.declared.refusal.Refusal.TheVariants.{NoSuchSub}
use Rattle.pg_session.specs.Events.{grant}
use Rattle.pg_session.specs.Private.{told, refused}
use Rattle.pg_session.specs.Ready.{NeedsNone}
use Rattle.pg_gateway.specs.State.{with_note, moved, code_of, grant_refusal}
use Rattle.pg_gateway.specs.Shown.{SlotValue}
use Rattle.pg_gateway.specs.Shown.{SlotShows}
use Rattle.pg_gateway.specs.Taking.{HasNone}
use Rattle.pg_gateway.proofs.RelatedLaws.{lookup-none, lookup-some}
use Rattle.pg_gateway.proofs.OneLaws.{slots-lookup, slots-set_value, at_slot-none, at_slot-twice, Related-at_slot}
use Rattle.pg_gateway.proofs.asking.grant_at.Goals as goal

pub grant_noted-requires-clause-none : goal.grant_noted-requires-clause-none
grant_noted-requires-clause-none c = slots-lookup HasNone (nat_eq c.args.sub) c.args.subs.now.entries c.in-Some.slot.now c.requires.none (sym c.in-Some.ensures.value)

pub returns-in-None-clause-takes : goal.returns-in-None-clause-takes
returns-in-None-clause-takes c = λ slots h.
    let none = lookup-none SlotShows (nat_eq c.args.sub) c.args.subs.now.entries slots h (sym c.in-None.ensures.value) in
    let gone = at_slot-none c.args.sub (moved (grant c.args.key.now (option_map (λ k. arc_value k.now) c.args.config)) (refused NoSuchSub)) slots none in
    record {
      may = rw none refl;
      shows = rw (c.get_mut.follows.holds-at-none, gone, at_slot-none c.args.sub (with_note (audited.Grant, Some NoSuchSub)) slots none) h;
    }

pub returns-in-Some-clause-takes : goal.returns-in-Some-clause-takes
returns-in-Some-clause-takes c = λ slots h.
    let found = lookup-some SlotShows (nat_eq c.args.sub) c.in-Some.slot.now c.args.subs.now.entries slots h (sym c.in-Some.ensures.value) in
    let wrote = c.get_mut.follows.holds c.grant_noted.new.self in
    let t = told c.grant_noted.result in
    let x = grant c.args.key.now (option_map (λ k. arc_value k.now) c.args.config) in
    record {
      may = rw found.1 (c.grant_noted.ensures.takes.grants found.0 found.2).may;
      shows = rw (wrote.0, at_slot-twice c.args.sub (with_note (audited.Grant, code_of t)) (moved x t) slots)
          (Related-at_slot SlotShows c.args.sub (λ s. with_note (audited.Grant, code_of t) (moved x t s)) c.args.subs.now.entries slots c.in-Some.slot.now c.grant_noted.new.self h (sym c.in-Some.ensures.value)
          (λ s shown. (c.grant_noted.ensures.takes.grants s shown).shows));
    }

pub returns-in-Some-clause-none : goal.returns-in-Some-clause-none
returns-in-Some-clause-none c =
    let wrote = c.get_mut.follows.holds c.grant_noted.new.self in
    rw wrote.0 (slots-set_value HasNone (nat_eq c.args.sub) c.args.subs.now.entries c.grant_noted.new.self c.requires.none c.grant_noted.ensures.takes.none)

pub returns-in-Some-clause-frugal : goal.returns-in-Some-clause-frugal
returns-in-Some-clause-frugal c = λ slots h none needs.
    let found = lookup-some SlotShows (nat_eq c.args.sub) c.in-Some.slot.now c.args.subs.now.entries slots h (sym c.in-Some.ensures.value) in
    let x = grant c.args.key.now (option_map (λ k. arc_value k.now) c.args.config) in
    c.grant_noted.ensures.takes.frugal found.0 found.2 (sym (ap (λ o. grant_refusal o true x) found.1) ∙ none)
    (subst (λ o. IfSome o (λ (v : SlotValue). NeedsNone v.subscriber x)) (sym c.in-Some.ensures.value) needs)
