use Rattle.std.proofs.Common.{◌≡◌, ◌<◌, rules, false, refl, sym, ap, subst, arith, length, ◌∙◌}
use Rattle.std.proofs.lemmas.List.{append-nil}
use Rattle.std.specs.Arc.{arc_value}
use Rattle.pg_audit.specs.Noting as audit
use Rattle.pg_session.specs.Events.{measure, samples_at}
use Rattle.pg_session.specs.Private.{told}
use Rattle.pg_gateway.specs.Routes.{places_at}
use Rattle.pg_gateway.specs.Sharing.{share}
use Rattle.pg_gateway.specs.Taking.{measured}
use Rattle.pg_gateway.proofs.Taking.{measured_none, measured_share, offer_cleared, offer_some, fit_at, prepared_at, not_true, none_is_some}
use Rattle.pg_gateway.proofs.MaskLaws.{held_told, none_held, some_held, rising_told}
use Rattle.pg_gateway.proofs.slot.SubscriberSlot.apply_some.Goals as goal

pub returns-then-number-eq0-clause-takes : goal.returns-then-number-eq0-clause-takes
returns-then-number-eq0-clause-takes c =
    let m = arc_value c.args.frame.now in
    let places = c.args.places.now in
    let held = held_told false c.args.number m.config places c.args.self.now _ (places_at c.args.number 0 places) c.self.view_is refl c.requires.tell in
    let none = measured_none m places (places_at c.args.number 0 places) c.self.inside.subscriber.own.grants held (none_held c.args.number places (omega (arith, c.if-number-eq0.true))) in
    offer_cleared (measured m places) c.args.lost c.args.self.now _ c.self.view_is (ap (λ v. share (measured m places) v.subscriber.own.grants) (sym c.self.view_is) ∙ none) c.requires.awaits

pub apply_frame-requires : goal.apply_frame-requires
apply_frame-requires c =
    let m = arc_value c.args.frame.now in
    let places = c.args.places.now in
    let items = c.deref.result.now in
    let is : items ≡ places_at c.args.number 0 places = c.deref.ensures.value ∙ c.hold_all.ensures.held in
    let held = held_told false c.args.number m.config places c.args.self.now _ items c.self.view_is is c.requires.tell in
    let rising = rising_told m.config places c.self.inside.subscriber.own.grants items held c.requires.rising in
    let full : 0 < length items =
    subst (λ l. 0 < length l) (sym is) (some_held c.args.number places (omega (arith, c.if-number-eq0.false)) (search rules) (c.requires.tell.bits refl)) in
    let some = measured_share m places items c.self.inside.subscriber.own.grants held rising full in
    let awaits = rw (← c.self.view_is) at c.requires.awaits in
    record {
      places = record { some = full; rising = rising };
      held = fit_at c.self.inside.subscriber _ _ some awaits.fit;
      prepared = prepared_at c.self.inside.subscriber _ _ some awaits.prepared;
    }

pub returns-clause-takes : goal.returns-clause-takes
returns-clause-takes c =
    let m = arc_value c.args.frame.now in
    let places = c.args.places.now in
    let items = c.deref.result.now in
    let is : items ≡ places_at c.args.number 0 places = c.deref.ensures.value ∙ c.hold_all.ensures.held in
    let held = held_told false c.args.number m.config places c.args.self.now _ items c.self.view_is is c.requires.tell in
    let rising = rising_told m.config places c.self.inside.subscriber.own.grants items held c.requires.rising in
    let full : 0 < length items =
    subst (λ l. 0 < length l) (sym is) (some_held c.args.number places (omega (arith, c.if-number-eq0.false)) (search rules) (c.requires.tell.bits refl)) in
    let some = measured_share m places items c.self.inside.subscriber.own.grants held rising full in
    rw (← c.self.view_is) (offer_some (measured m places) c.args.lost _ _ (measure m.soc m.quality m.frac (samples_at m items)) (told c.apply_frame.result) c.counts.result some c.apply_frame.ensures.takes
    (λ s h. subst (λ l. audit.ShowsAudit c.self.inside.audit l) (sym (append-nil s.noted)) h.audit) c.counts.ensures.counts (c.counts.ensures.few c.apply_frame.ensures.few) c.apply_frame.ensures.none)

pub returns-clause-spared : goal.returns-clause-spared
returns-clause-spared c =
    let m = arc_value c.args.frame.now in
    let places = c.args.places.now in
    let items = c.deref.result.now in
    let is : items ≡ places_at c.args.number 0 places = c.deref.ensures.value ∙ c.hold_all.ensures.held in
    let held = held_told false c.args.number m.config places c.args.self.now _ items c.self.view_is is c.requires.tell in
    let rising = rising_told m.config places c.self.inside.subscriber.own.grants items held c.requires.rising in
    let full : 0 < length items =
    subst (λ l. 0 < length l) (sym is) (some_held c.args.number places (omega (arith, c.if-number-eq0.false)) (search rules) (c.requires.tell.bits refl)) in
    let some = measured_share m places items c.self.inside.subscriber.own.grants held rising full in
    let awaits = rw (← c.self.view_is) at c.requires.awaits in
    not_true _ (λ on. none_is_some (sym (awaits.spared on) ∙ some))
