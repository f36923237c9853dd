use Rattle.std.proofs.Common.{◌≡◌, ◌<◌, rules, false, refl, sym, ap, subst, arith, length, ◌∙◌}
use Rattle.std.specs.Arc.{arc_value}
use Rattle.pg_gateway.specs.Routes.{places_at}
use Rattle.pg_gateway.specs.Sharing.{share}
use Rattle.pg_gateway.specs.Taking.{measured}
use Rattle.pg_gateway.proofs.Taking.{measured_none, measured_share, fit_at, prepares_no_share, prepares_share}
use Rattle.pg_gateway.proofs.MaskLaws.{held_told, none_held, some_held, rising_told}
use Rattle.pg_gateway.proofs.slot.SubscriberSlot.prepare_some.Goals as goal

pub returns-then-number-eq0-clause-prepares : goal.returns-then-number-eq0-clause-prepares
returns-then-number-eq0-clause-prepares c =
    let m = arc_value c.args.frame.now in
    let places = c.args.places.now in
    let old = c.args.self.now in
    let held = held_told false c.args.number m.config places old old (places_at c.args.number 0 places) refl refl c.requires.tell in
    prepares_no_share (measured m places) old old refl c.requires.none
    (measured_none m places (places_at c.args.number 0 places) old.subscriber.own.grants held (none_held c.args.number places (omega (arith, c.if-number-eq0.true))))

pub prepare_frame-requires : goal.prepare_frame-requires
prepare_frame-requires c =
    let m = arc_value c.args.frame.now in
    let places = c.args.places.now in
    let items = c.deref.result.now in
    let is : items ≡ places_at c.args.number 0 places = c.deref.ensures.value ∙ c.hold_all.ensures.held in
    let held = held_told false c.args.number m.config places c.args.self.now _ items c.self.view_is is c.requires.tell in
    let rising = rising_told m.config places c.self.inside.subscriber.own.grants items held c.requires.rising in
    let full : 0 < length items =
    subst (λ l. 0 < length l) (sym is) (some_held c.args.number places (omega (arith, c.if-number-eq0.false)) (search rules) (c.requires.tell.bits refl)) in
    let some = measured_share m places items c.self.inside.subscriber.own.grants held rising full in
    let fit = rw (← c.self.view_is) at c.requires.fit in
    record {
      places = record { some = full; rising = rising };
      held = fit_at c.self.inside.subscriber _ _ some fit;
    }

pub returns-clause-prepares : goal.returns-clause-prepares
returns-clause-prepares c =
    let m = arc_value c.args.frame.now in
    let places = c.args.places.now in
    let items = c.deref.result.now in
    let is : items ≡ places_at c.args.number 0 places = c.deref.ensures.value ∙ c.hold_all.ensures.held in
    let held = held_told false c.args.number m.config places c.args.self.now _ items c.self.view_is is c.requires.tell in
    let rising = rising_told m.config places c.self.inside.subscriber.own.grants items held c.requires.rising in
    let full : 0 < length items =
    subst (λ l. 0 < length l) (sym is) (some_held c.args.number places (omega (arith, c.if-number-eq0.false)) (search rules) (c.requires.tell.bits refl)) in
    let some = measured_share m places items c.self.inside.subscriber.own.grants held rising full in
    prepares_share (measured m places) c.args.self.now _ _ c.prepare_frame.result c.prepare_frame.new.self c.self.view_is c.requires.none
    (ap (λ v. share (measured m places) v.subscriber.own.grants) (sym c.self.view_is) ∙ some)
    c.prepare_frame.ensures.prepared c.prepare_frame.ensures.memory c.prepare_frame.ensures.needless c.prepare_frame.ensures.own
