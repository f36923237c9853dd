use Rattle.std.proofs.Common.{sym, ap, subst, ◌∙◌}
use Rattle.pg_audit.specs.Noting as audit
use Rattle.pg_session.specs.Events.{announce, announced_at}
use Rattle.pg_session.specs.Private.{told}
use Rattle.pg_gateway.specs.Sharing.{announces, share}
use Rattle.pg_gateway.proofs.Taking.{announced_none, announced_share, offer_none, offer_some, fit_at, prepared_at, announced_ready}
use Rattle.std.proofs.lemmas.List.{append-nil}
use Rattle.pg_gateway.proofs.slot.SubscriberSlot.apply_announced.Goals as goal

pub returns-then-not-hold-clause-takes : goal.returns-then-not-hold-clause-takes
returns-then-not-hold-clause-takes c =
    let none = announced_none c.args.config.now c.args.places.now c.hold.new.held.items c.self.inside.subscriber.own.grants c.hold.ensures.held (c.hold.ensures.none c.if-not-hold.true) in
    offer_none (announces (announced_at c.args.config.now c.args.places.now)) c.args.lost c.args.self.now (ap (λ v. share (announces (announced_at c.args.config.now c.args.places.now)) v.subscriber.own.grants) (sym c.self.view_is) ∙ none) c.requires.awaits

pub take-requires-clause-accepts : goal.take-requires-clause-accepts
take-requires-clause-accepts c =
    let full = (c.hold.ensures.some c.if-not-hold.false) in
    let some = announced_share c.args.config.now c.args.places.now c.hold.new.held.items c.self.inside.subscriber.own.grants c.hold.ensures.held c.hold.ensures.rising full in
    let awaits = rw (← c.self.view_is) at c.requires.awaits in
    record {
      placed = rw c.deref.ensures.value (record { some = full; rising = c.hold.ensures.rising });
      own = rw c.deref.ensures.value (fit_at c.self.inside.subscriber _ _ some awaits.fit);
    }

pub take-requires-clause-ready : goal.take-requires-clause-ready
take-requires-clause-ready c =
    let full = (c.hold.ensures.some c.if-not-hold.false) in
    let some = announced_share c.args.config.now c.args.places.now c.hold.new.held.items c.self.inside.subscriber.own.grants c.hold.ensures.held c.hold.ensures.rising full in
    let awaits = rw (← c.self.view_is) at c.requires.awaits in
    rw c.deref.ensures.value (announced_ready c.self.inside.subscriber _ (prepared_at c.self.inside.subscriber _ _ some awaits.prepared))

pub returns-clause-takes : goal.returns-clause-takes
returns-clause-takes c =
    let some = announced_share c.args.config.now c.args.places.now c.hold.new.held.items c.self.inside.subscriber.own.grants c.hold.ensures.held c.hold.ensures.rising (c.hold.ensures.some c.if-not-hold.false) in
    let takes = rw c.deref.ensures.value at c.take.ensures.takes in
    rw (← c.self.view_is) (offer_some (announces (announced_at c.args.config.now c.args.places.now)) c.args.lost _ _ (announce (announced_at c.args.config.now c.hold.new.held.items)) (told c.take.result) c.counts.result some takes
    (λ s h. subst (λ l. audit.ShowsAudit c.self.inside.audit l) (sym (append-nil s.noted)) h.audit) c.counts.ensures.counts (c.counts.ensures.few c.take.ensures.few) c.take.ensures.none)
