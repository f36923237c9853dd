use Rattle.std.proofs.Common.{length, ap, sym, ◌∙◌, subst}
use Rattle.pg_data.specs.Measurements.{Measurement}
use Rattle.pg_session.specs.Ready.{ArePlaces}
use Rattle.pg_session.proofs.Preparing.{places_within}
use Rattle.pg_session.proofs.subscriber.Subscriber.accepts.Goals as goal

pub are_own-requires : goal.are_own-requires
are_own-requires c =
    let places = c.in-Announce.places.now in
    record { places = places_within _ places (subst (λ n. ArePlaces n places) c.count.ensures.value (c.are_places.ensures.0 c.if-are_places.true)) }

pub are_held-requires : goal.are_held-requires
are_held-requires c =
    let places = c.in-Measure.places.now in
    let same = c.deref-in-Measure.ensures ∙ sym c.deref-then-are_places-2.ensures in
    record {
      places = places_within _ places (subst (λ n. ArePlaces n places)
          (c.count-in-Measure.ensures.value ∙ ap (λ (m : Measurement). length m.config.parts) same) (c.are_places-in-Measure.ensures.0 c.if-are_places-2.true));
    }
