use Rattle.std.proofs.Common.{[], ◌∷◌, get_or, true, IfSome, refl, subst}
use Rattle.std.specs.Arc.{arc_value}
use Rattle.pg_gateway.specs.Routes.{TellsShare, IsOnlyBit}
use Rattle.pg_gateway.specs.Taking.{measured}
use Rattle.pg_gateway.proofs.Taking.{measured_share, fit_at, prepares_share}
use Rattle.pg_gateway.proofs.MaskLaws.{held_told}
use Rattle.pg_gateway.proofs.OnlyLaws.{only_told, fits_same, prepares_same}
use Rattle.pg_gateway.proofs.slot.SubscriberSlot.prepare_measured.Goals as goal

pub prepare_frame-requires : goal.prepare_frame-requires
prepare_frame-requires c =
    let m = arc_value c.args.frame.now in
    let places = c.args.places.now in
    let tell = subst (λ b. TellsShare b c.args.number m.config places c.args.self.now) c.if-whole.true c.requires.tell in
    let held = held_told true c.args.number m.config places c.args.self.now _ places c.self.view_is refl tell in
    let some = measured_share m places places c.self.inside.subscriber.own.grants held c.requires.rising c.requires.some in
    let fit = rw (← c.self.view_is) at c.requires.fit in
    record {
      places = record { some = c.requires.some; rising = c.requires.rising };
      held = fit_at c.self.inside.subscriber _ _ some fit;
    }

pub returns-then-whole-clause-prepares : goal.returns-then-whole-clause-prepares
returns-then-whole-clause-prepares c =
    let m = arc_value c.args.frame.now in
    let places = c.args.places.now in
    let tell = subst (λ b. TellsShare b c.args.number m.config places c.args.self.now) c.if-whole.true c.requires.tell in
    let held = held_told true c.args.number m.config places c.args.self.now c.args.self.now places refl refl tell in
    let some = measured_share m places places c.args.self.now.subscriber.own.grants held c.requires.rising c.requires.some in
    prepares_share (measured m places) c.args.self.now _ _ c.prepare_frame.result c.prepare_frame.new.self c.self.view_is c.requires.none some
    c.prepare_frame.ensures.prepared c.prepare_frame.ensures.memory c.prepare_frame.ensures.needless c.prepare_frame.ensures.own

pub prepare_block-requires-clause-place : goal.prepare_block-requires-clause-place
prepare_block-requires-clause-place c =
    (only_told (arc_value c.args.frame.now) c.args.places.now c.args.number c.in-Some.bit c.args.self.now c.requires.rising (subst (λ b. TellsShare b c.args.number (arc_value c.args.frame.now).config c.args.places.now c.args.self.now) c.if-whole.false c.requires.tell)
    (subst (λ o. IfSome o (λ bit. IsOnlyBit c.args.number bit)) c.in-Some.is c.only_bit.ensures)).0

pub prepare_block-requires-clause-holds : goal.prepare_block-requires-clause-holds
prepare_block-requires-clause-holds c =
    (only_told (arc_value c.args.frame.now) c.args.places.now c.args.number c.in-Some.bit c.args.self.now c.requires.rising (subst (λ b. TellsShare b c.args.number (arc_value c.args.frame.now).config c.args.places.now c.args.self.now) c.if-whole.false c.requires.tell)
    (subst (λ o. IfSome o (λ bit. IsOnlyBit c.args.number bit)) c.in-Some.is c.only_bit.ensures)).1

pub prepare_block-requires-clause-fit : goal.prepare_block-requires-clause-fit
prepare_block-requires-clause-fit c =
    let m = arc_value c.args.frame.now in
    let told = only_told (arc_value c.args.frame.now) c.args.places.now c.args.number c.in-Some.bit c.args.self.now c.requires.rising (subst (λ b. TellsShare b c.args.number (arc_value c.args.frame.now).config c.args.places.now c.args.self.now) c.if-whole.false c.requires.tell)
    (subst (λ o. IfSome o (λ bit. IsOnlyBit c.args.number bit)) c.in-Some.is c.only_bit.ensures) in
    fits_same (measured m c.args.places.now) (measured m (get_or c.args.places.now c.in-Some.bit 0 ∷ [])) c.args.self.now told.2 c.requires.fit

pub returns-in-Some-clause-prepares : goal.returns-in-Some-clause-prepares
returns-in-Some-clause-prepares c =
    let m = arc_value c.args.frame.now in
    let told = only_told (arc_value c.args.frame.now) c.args.places.now c.args.number c.in-Some.bit c.args.self.now c.requires.rising (subst (λ b. TellsShare b c.args.number (arc_value c.args.frame.now).config c.args.places.now c.args.self.now) c.if-whole.false c.requires.tell)
    (subst (λ o. IfSome o (λ bit. IsOnlyBit c.args.number bit)) c.in-Some.is c.only_bit.ensures) in
    prepares_same (measured m c.args.places.now) (measured m (get_or c.args.places.now c.in-Some.bit 0 ∷ [])) c.args.self.now told.2 c.prepare_block.result c.prepare_block.new.self c.prepare_block.ensures.prepares
