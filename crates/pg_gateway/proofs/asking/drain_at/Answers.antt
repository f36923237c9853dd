use Rattle.std.proofs.Common.{length, nat_eq, None, refl, sym}
use Rattle.pg_session.specs.Events.{drain}
use Rattle.pg_session.specs.Private.{told, refused}
use Rattle.pg_wire.specs.declared.refusal.Refusal.TheVariants.{NoSuchSub}
use Rattle.pg_gateway.specs.Shown.{SlotShows}
use Rattle.pg_gateway.specs.Taking.{HasNone}
use Rattle.pg_gateway.proofs.RelatedLaws.{lookup-none, lookup-some}
use Rattle.pg_gateway.proofs.OneLaws.{slots-lookup, slots-set_value, nobody_takes, one_takes}
use Rattle.pg_gateway.proofs.asking.drain_at.Goals as goal

pub drain-requires : goal.drain-requires
drain-requires c = record { none = slots-lookup HasNone (nat_eq c.args.sub) c.args.subs.now.entries c.in-Some.slot.now c.requires.none (sym c.in-Some.ensures.value) }

pub returns-in-None-clause-takes : goal.returns-in-None-clause-takes
returns-in-None-clause-takes c = λ slots h.
    let none = lookup-none SlotShows (nat_eq c.args.sub) c.args.subs.now.entries slots h (sym c.in-None.ensures.value) in
    record { t = refused NoSuchSub; is = refl; takes = rw c.get_mut.follows.holds-at-none (nobody_takes c.args.sub (drain (length c.args.buf.items)) slots c.args.subs.now.entries h none) }

pub returns-in-Some-clause-takes : goal.returns-in-Some-clause-takes
returns-in-Some-clause-takes c = λ slots h.
    let found = lookup-some SlotShows (nat_eq c.args.sub) c.in-Some.slot.now c.args.subs.now.entries slots h (sym c.in-Some.ensures.value) in
    let wrote = c.get_mut.follows.holds c.drain.new.self in
    record {
      t = told c.drain.result;
      is = c.reply_of.ensures.told;
      takes = rw wrote.0 (one_takes c.args.sub (drain (length c.args.buf.items)) (told c.drain.result) None slots c.args.subs.now.entries c.in-Some.slot.now c.drain.new.self found.0
          refl h (sym c.in-Some.ensures.value) found.1 (c.drain.ensures.takes found.0 found.2).may (λ s shown. (c.drain.ensures.takes s shown).shows));
    }

pub returns-in-Some-clause-buffer : goal.returns-in-Some-clause-buffer
returns-in-Some-clause-buffer c = c.reply_of.ensures.buffer c.args.buf.items c.drain.ensures.buffer

pub returns-in-Some-clause-none : goal.returns-in-Some-clause-none
returns-in-Some-clause-none c =
    let wrote = c.get_mut.follows.holds c.drain.new.self in
    rw wrote.0 (slots-set_value HasNone (nat_eq c.args.sub) c.args.subs.now.entries c.drain.new.self c.requires.none c.drain.ensures.none)
