use Rattle.std.proofs.Common.{◌<◌, length, All, sym, subst}
use Rattle.pg_data.specs.Measurements.{Measurement}
use Rattle.pg_session.proofs.Preparing.{places_within}
use Rattle.pg_session.proofs.subscriber.Subscriber.prepare_just.Goals as goal

pub are_filled-requires : goal.are_filled-requires
are_filled-requires c = record {
  places = subst (λ (m : Measurement). All (λ i. i < length m.config.parts) c.args.places.now) (sym c.deref.ensures) (places_within _ c.args.places.now c.requires.places);
}
