use Rattle.std.proofs.Common.{inl, sym, ap, ◌∙◌}
use Rattle.std.proofs.lemmas.Result.{err_from_is_err_and}
use Rattle.pg_session.specs.Events.{announced_at}
use Rattle.pg_gateway.specs.Sharing.{announces, share}
use Rattle.pg_gateway.proofs.Taking.{announced_none, announced_share, fit_at, prepares_nothing, prepares_some, prepares_refused}
use Rattle.pg_gateway.proofs.slot.SubscriberSlot.prepare_announced.Goals as goal

pub returns-then-not-hold-clause-prepares : goal.returns-then-not-hold-clause-prepares
returns-then-not-hold-clause-prepares c =
    let none = announced_none c.args.config.now c.args.places.now c.hold.new.held.items c.self.inside.subscriber.own.grants c.hold.ensures.held (c.hold.ensures.none c.if-not-hold.true) in
    prepares_nothing (announces (announced_at c.args.config.now c.args.places.now)) c.args.self.now _ c.self.view_is c.requires.none
    (ap (λ v. share (announces (announced_at c.args.config.now c.args.places.now)) v.subscriber.own.grants) (sym c.self.view_is) ∙ none)

pub copies-requires : goal.copies-requires
copies-requires c =
    let full = (c.hold.ensures.some c.if-not-hold.false) in
    let some = announced_share c.args.config.now c.args.places.now c.hold.new.held.items c.self.inside.subscriber.own.grants c.hold.ensures.held c.hold.ensures.rising full in
    let fit = rw (← c.self.view_is) at c.requires.fit in
    record {
      accepts = record {
        placed = rw c.deref.ensures.value (record { some = full; rising = c.hold.ensures.rising });
        own = rw c.deref.ensures.value (fit_at c.self.inside.subscriber _ _ some fit);
      };
    }

pub returns-in_err-copies-clause-prepares : goal.returns-in_err-copies-clause-prepares
returns-in_err-copies-clause-prepares c =
    let some = announced_share c.args.config.now c.args.places.now c.hold.new.held.items c.self.inside.subscriber.own.grants c.hold.ensures.held c.hold.ensures.rising (c.hold.ensures.some c.if-not-hold.false) in
    let needless = rw c.deref.ensures.value at c.in_err-copies.ensures.needless in
    let err = err_from_is_err_and c.from_residual.result c.from_residual.ensures.1 in
    rw (err.1, err.2) (prepares_refused (announces (announced_at c.args.config.now c.args.places.now)) c.args.self.now _ _ _ c.copies.new.self c.self.view_is
    (ap (λ v. share (announces (announced_at c.args.config.now c.args.places.now)) v.subscriber.own.grants) (sym c.self.view_is) ∙ some)
    c.in_err-copies.ensures.memory needless c.copies.ensures.own)

pub returns-clause-prepares : goal.returns-clause-prepares
returns-clause-prepares c =
    let some = announced_share c.args.config.now c.args.places.now c.hold.new.held.items c.self.inside.subscriber.own.grants c.hold.ensures.held c.hold.ensures.rising (c.hold.ensures.some c.if-not-hold.false) in
    let ready = rw c.deref.ensures.value at c.in_ok-copies.ensures.ready in
    prepares_some (announces (announced_at c.args.config.now c.args.places.now)) c.args.self.now _ _ c.copies.new.self c.self.view_is c.requires.none
    (ap (λ v. share (announces (announced_at c.args.config.now c.args.places.now)) v.subscriber.own.grants) (sym c.self.view_is) ∙ some)
    (inl ready) c.copies.ensures.own
