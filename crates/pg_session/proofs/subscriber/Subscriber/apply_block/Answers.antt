use Rattle.std.proofs.Common.{[], ◌∷◌, sym, subst}
use Rattle.std.specs.Arc.{arc_value}
use Rattle.pg_data.specs.Measurements.{Measurement}
use Rattle.pg_data.specs.Pieces.{piece_of}
use Rattle.pg_session.specs.Events.{measure, samples_at}
use Rattle.pg_session.specs.Private.{told}
use Rattle.pg_session.specs.Steps.{Steps}
use Rattle.pg_session.specs.Fields.{Serving}
use Rattle.pg_session.proofs.Stepping.{steps_taken}
use Rattle.pg_session.proofs.OneBlock.{prepared_one}
use Rattle.pg_session.proofs.subscriber.Subscriber.apply_block.Goals as goal

pub measure_one-requires-clause-serving : goal.measure_one-requires-clause-serving
measure_one-requires-clause-serving c =
    subst (λ (m : Measurement). Serving c.args.self.now m.quality (samples_at m (c.args.place ∷ [])) (piece_of m c.args.place)) (sym c.deref.ensures)
    (prepared_one c.args.self.now (arc_value c.args.frame.now) c.args.place c.requires.place c.requires.prepared)

pub returns-clause-takes : goal.returns-clause-takes
returns-clause-takes c =
    let m : Measurement = arc_value c.args.frame.now in
    let place = c.args.place in
    steps_taken c.args.self.now (measure m.soc m.quality m.frac (samples_at m (place ∷ []))) c.args.lost (told c.measure_one.result) c.measure_one.new.self
    (subst (λ (m : Measurement). Steps c.args.self.now (measure m.soc m.quality m.frac (samples_at m (place ∷ []))) c.args.lost (told c.measure_one.result) c.measure_one.new.self)
    c.deref.ensures c.measure_one.ensures.steps)
