use Rattle.std.proofs.Common.{[], ◌∷◌, get_or, true, IfSome, refl, sym, subst, ◌∙◌}
use Rattle.std.proofs.lemmas.List.{append-nil}
use Rattle.std.specs.Arc.{arc_value}
use Rattle.pg_audit.specs.Noting as audit
use Rattle.pg_session.specs.Events.{measure, samples_at}
use Rattle.pg_session.specs.Private.{told}
use Rattle.pg_gateway.specs.Routes.{TellsShare, IsOnlyBit}
use Rattle.pg_gateway.specs.Taking.{measured}
use Rattle.pg_gateway.proofs.Taking.{measured_share, offer_some, fit_at, prepared_at, not_true, none_is_some}
use Rattle.pg_gateway.proofs.MaskLaws.{held_told}
use Rattle.pg_gateway.proofs.OnlyLaws.{only_told, awaits_same, takes_same}
use Rattle.pg_gateway.proofs.slot.SubscriberSlot.apply_measured.Goals as goal

pub apply_frame-requires : goal.apply_frame-requires
apply_frame-requires c =
    let m = arc_value c.args.frame.now in
    let places = c.args.places.now in
    let tell = subst (λ b. TellsShare b c.args.number m.config places c.args.self.now) c.if-whole.true c.requires.tell in
    let held = held_told true c.args.number m.config places c.args.self.now _ places c.self.view_is refl tell in
    let some = measured_share m places places c.self.inside.subscriber.own.grants held c.requires.rising c.requires.some in
    let awaits = rw (← c.self.view_is) at c.requires.awaits in
    record {
      places = record { some = c.requires.some; rising = c.requires.rising };
      held = fit_at c.self.inside.subscriber _ _ some awaits.fit;
      prepared = prepared_at c.self.inside.subscriber _ _ some awaits.prepared;
    }

pub returns-then-whole-clause-takes : goal.returns-then-whole-clause-takes
returns-then-whole-clause-takes c =
    let m = arc_value c.args.frame.now in
    let places = c.args.places.now in
    let tell = subst (λ b. TellsShare b c.args.number m.config places c.args.self.now) c.if-whole.true c.requires.tell in
    let held = held_told true c.args.number m.config places c.args.self.now _ places c.self.view_is refl tell in
    let some = measured_share m places places c.self.inside.subscriber.own.grants held c.requires.rising c.requires.some in
    rw (← c.self.view_is) (offer_some (measured m places) c.args.lost _ _ (measure m.soc m.quality m.frac (samples_at m places)) (told c.apply_frame.result) c.counts.result some c.apply_frame.ensures.takes
    (λ s h. subst (λ l. audit.ShowsAudit c.self.inside.audit l) (sym (append-nil s.noted)) h.audit) c.counts.ensures.counts (c.counts.ensures.few c.apply_frame.ensures.few) c.apply_frame.ensures.none)

pub returns-then-whole-clause-spared : goal.returns-then-whole-clause-spared
returns-then-whole-clause-spared c =
    let m = arc_value c.args.frame.now in
    let places = c.args.places.now in
    let tell = subst (λ b. TellsShare b c.args.number m.config places c.args.self.now) c.if-whole.true c.requires.tell in
    let held = held_told true c.args.number m.config places c.args.self.now _ places c.self.view_is refl tell in
    let some = measured_share m places places c.self.inside.subscriber.own.grants held c.requires.rising c.requires.some in
    let awaits = rw (← c.self.view_is) at c.requires.awaits in
    not_true _ (λ on. none_is_some (sym (awaits.spared on) ∙ some))

pub apply_block-requires-clause-place : goal.apply_block-requires-clause-place
apply_block-requires-clause-place c =
    (only_told (arc_value c.args.frame.now) c.args.places.now c.args.number c.in-Some.bit c.args.self.now c.requires.rising (subst (λ b. TellsShare b c.args.number (arc_value c.args.frame.now).config c.args.places.now c.args.self.now) c.if-whole.false c.requires.tell)
    (subst (λ o. IfSome o (λ bit. IsOnlyBit c.args.number bit)) c.in-Some.is c.only_bit.ensures)).0

pub apply_block-requires-clause-holds : goal.apply_block-requires-clause-holds
apply_block-requires-clause-holds c =
    (only_told (arc_value c.args.frame.now) c.args.places.now c.args.number c.in-Some.bit c.args.self.now c.requires.rising (subst (λ b. TellsShare b c.args.number (arc_value c.args.frame.now).config c.args.places.now c.args.self.now) c.if-whole.false c.requires.tell)
    (subst (λ o. IfSome o (λ bit. IsOnlyBit c.args.number bit)) c.in-Some.is c.only_bit.ensures)).1

pub apply_block-requires-clause-awaits : goal.apply_block-requires-clause-awaits
apply_block-requires-clause-awaits c =
    let m = arc_value c.args.frame.now in
    let told = only_told (arc_value c.args.frame.now) c.args.places.now c.args.number c.in-Some.bit c.args.self.now c.requires.rising (subst (λ b. TellsShare b c.args.number (arc_value c.args.frame.now).config c.args.places.now c.args.self.now) c.if-whole.false c.requires.tell)
    (subst (λ o. IfSome o (λ bit. IsOnlyBit c.args.number bit)) c.in-Some.is c.only_bit.ensures) in
    awaits_same (measured m c.args.places.now) (measured m (get_or c.args.places.now c.in-Some.bit 0 ∷ [])) c.args.self.now told.2 c.requires.awaits

pub returns-in-Some-clause-takes : goal.returns-in-Some-clause-takes
returns-in-Some-clause-takes c =
    let m = arc_value c.args.frame.now in
    let place = get_or c.args.places.now c.in-Some.bit 0 in
    let told = only_told (arc_value c.args.frame.now) c.args.places.now c.args.number c.in-Some.bit c.args.self.now c.requires.rising (subst (λ b. TellsShare b c.args.number (arc_value c.args.frame.now).config c.args.places.now c.args.self.now) c.if-whole.false c.requires.tell)
    (subst (λ o. IfSome o (λ bit. IsOnlyBit c.args.number bit)) c.in-Some.is c.only_bit.ensures) in
    takes_same m c.args.places.now (place ∷ []) c.args.lost c.args.self.now c.apply_block.new.self c.apply_block.result told.2 c.apply_block.ensures.takes
