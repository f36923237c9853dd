use Rattle.std.proofs.Common.{◌≡◌, ◌<◌, [], ◌∷◌, ℕ, List, length, get_or, sym, ap, ◌∙◌, subst, arith}
use Rattle.std.specs.Arc.{arc_value}
use Rattle.pg_data.specs.Measurements.{Measurement}
use Rattle.pg_data.specs.Pieces.{piece_of}
use Rattle.pg_session.specs.Events.{measure, samples_at}
use Rattle.pg_session.specs.Private.{told}
use Rattle.pg_session.specs.Shown.{SubscriberValue}
use Rattle.pg_session.specs.Steps.{Steps}
use Rattle.pg_session.specs.Ready.{AreHeld}
use Rattle.pg_session.specs.Fields.{NeedNoCopies, Serving}
use Rattle.pg_session.specs.Filling.{IsPreparedFor}
use Rattle.pg_session.specs.Wanted.{all_wanted}
use Rattle.pg_session.proofs.Preparing.{empty_list, places_within}
use Rattle.pg_session.proofs.Stepping.{steps_taken}
use Rattle.pg_session.proofs.Filled.{prepared_empty, zero_of}
use Rattle.pg_session.proofs.OneBlock.{one_place, prepared_one, prepared_ready, not_spread, some_of}
use Rattle.pg_session.proofs.subscriber.Subscriber.apply_frame.Goals as goal

pub measure_one-requires-clause-place : goal.measure_one-requires-clause-place
measure_one-requires-clause-place c =
    let one = c.if-places-eq1.true in
    subst (λ (n : Measurement). get_or c.args.places.now 0 0 < length n.config.parts) (sym c.deref.ensures)
    (places_within _ c.args.places.now c.requires.places 0 0 (omega (arith, one)))

pub measure_one-requires-clause-held : goal.measure_one-requires-clause-held
measure_one-requires-clause-held c =
    let one = one_place c.args.places.now c.if-places-eq1.true in
    let m : Measurement = arc_value c.args.frame.now in
    let own = c.args.self.now.own in
    subst (λ (n : Measurement). AreHeld own.grants own.listed (samples_at n (get_or c.args.places.now 0 0 ∷ []))) (sym c.deref.ensures)
    (subst (λ (ps : List ℕ). AreHeld own.grants own.listed (samples_at m ps)) one c.requires.held)

pub measure_one-requires-clause-serving : goal.measure_one-requires-clause-serving
measure_one-requires-clause-serving c =
    let same = c.if-places-eq1.true in
    let one = one_place c.args.places.now same in
    let m : Measurement = arc_value c.args.frame.now in
    let v = c.args.self.now in
    let place = get_or c.args.places.now 0 0 in
    let within = places_within _ c.args.places.now c.requires.places 0 0 (omega (arith, same)) in
    let prepared = subst (λ (ps : List ℕ). IsPreparedFor v (measure m.soc m.quality m.frac (samples_at m ps))) one c.requires.prepared in
    subst (λ (n : Measurement). Serving v n.quality (samples_at n (place ∷ [])) (piece_of n place)) (sym c.deref.ensures) (prepared_one v m place within prepared)

pub returns-then-places-eq1-clause-steps : goal.returns-then-places-eq1-clause-steps
returns-then-places-eq1-clause-steps c =
    let one = one_place c.args.places.now c.if-places-eq1.true in
    let m : Measurement = arc_value c.args.frame.now in
    let place = get_or c.args.places.now 0 0 in
    let steps = subst (λ (n : Measurement). Steps c.args.self.now (measure n.soc n.quality n.frac (samples_at n (place ∷ []))) c.args.lost (told c.measure_one.result) c.measure_one.new.self)
    c.deref.ensures c.measure_one.ensures.steps in
    subst (λ (ps : List ℕ). Steps c.args.self.now (measure m.soc m.quality m.frac (samples_at m ps)) c.args.lost (told c.measure_one.result) c.measure_one.new.self) (sym one) steps

pub returns-then-places-eq1-clause-takes : goal.returns-then-places-eq1-clause-takes
returns-then-places-eq1-clause-takes c =
    let one = one_place c.args.places.now c.if-places-eq1.true in
    let m : Measurement = arc_value c.args.frame.now in
    let place = get_or c.args.places.now 0 0 in
    let steps = subst (λ (n : Measurement). Steps c.args.self.now (measure n.soc n.quality n.frac (samples_at n (place ∷ []))) c.args.lost (told c.measure_one.result) c.measure_one.new.self)
    c.deref.ensures c.measure_one.ensures.steps in
    steps_taken c.args.self.now (measure m.soc m.quality m.frac (samples_at m c.args.places.now)) c.args.lost (told c.measure_one.result) c.measure_one.new.self
    (subst (λ (ps : List ℕ). Steps c.args.self.now (measure m.soc m.quality m.frac (samples_at m ps)) c.args.lost (told c.measure_one.result) c.measure_one.new.self) (sym one) steps)

pub measure_filled-requires-clause-filled : goal.measure_filled-requires-clause-filled
measure_filled-requires-clause-filled c =
    let m : Measurement = arc_value c.args.frame.now in
    let inside : c.self.inside.blocks.items ≡ [] =
    empty_list c.self.inside.blocks.items (zero_of (length c.self.inside.blocks.items) (sym c.is_empty.ensures ∙ c.if-is_empty.true)) in
    let none : c.args.self.now.blocks ≡ [] = sym (ap (λ (v : SubscriberValue). v.blocks) c.self.view_is) ∙ inside in
    let several = not_spread c.args.self.now m c.args.places.now c.requires.places (let other = c.if-places-eq1.false in omega (arith, c.requires.places.some, other)) in
    subst (λ (n : Measurement). NeedNoCopies n.soc n.quality n.frac (samples_at n c.args.places.now) c.args.self.now.own.streams) (sym c.deref-then-is_empty.ensures)
    (prepared_empty c.args.self.now m.soc m.quality m.frac (samples_at m c.args.places.now) none several c.requires.prepared)

pub returns-then-is_empty-clause-takes : goal.returns-then-is_empty-clause-takes
returns-then-is_empty-clause-takes c =
    let m : Measurement = arc_value c.args.frame.now in
    let places = c.args.places.now in
    steps_taken c.args.self.now (measure m.soc m.quality m.frac (samples_at m places)) c.args.lost (told c.measure_filled.result) c.measure_filled.new.self
    (subst (λ (n : Measurement). Steps c.args.self.now (measure n.soc n.quality n.frac (samples_at n places)) c.args.lost (told c.measure_filled.result) c.measure_filled.new.self)
    c.deref-then-is_empty.ensures c.measure_filled.ensures.steps)

pub measure-requires-clause-ready : goal.measure-requires-clause-ready
measure-requires-clause-ready c =
    let m : Measurement = arc_value c.args.frame.now in
    let places = c.args.places.now in
    let v = c.args.self.now in
    let several = not_spread v m places c.requires.places (let other = c.if-places-eq1.false in omega (arith, c.requires.places.some, other)) in
    let inside : 0 < length c.self.inside.blocks.items = some_of (length c.self.inside.blocks.items) (sym c.is_empty.ensures ∙ c.if-is_empty.false) in
    let some = subst (λ (w : SubscriberValue). 0 < length w.blocks) c.self.view_is inside in
    subst (λ (n : Measurement). v.blocks ≡ all_wanted v.own.streams n.quality (samples_at n places)) (sym c.deref-2.ensures)
    (prepared_ready v m.soc m.quality m.frac (samples_at m places) several some c.requires.prepared).blocks

pub returns-clause-takes : goal.returns-clause-takes
returns-clause-takes c =
    let m : Measurement = arc_value c.args.frame.now in
    let places = c.args.places.now in
    steps_taken c.args.self.now (measure m.soc m.quality m.frac (samples_at m places)) c.args.lost (told c.measure.result) c.measure.new.self
    (subst (λ (n : Measurement). Steps c.args.self.now (measure n.soc n.quality n.frac (samples_at n places)) c.args.lost (told c.measure.result) c.measure.new.self)
    c.deref-2.ensures c.measure.ensures.steps)
