use Rattle.std.proofs.Common.{◌+◌, length, take, subst, ap, ◌∙◌}
use Rattle.pg_config.specs.Parts.{Source, data_lens}
use Rattle.pg_data.specs.Measurements.{Measurement, IsMeasurement}
use Rattle.pg_data.proofs.Blocks.{place_sized, place_long, place_near, place_within}
use Rattle.pg_data.proofs.frame.DataFrame.place.Goals as goal

pub returns-clause-size : goal.returns-clause-size
returns-clause-size c =
    let ps = c.args.self.now.config.parts in
    place_sized ps c.args.i c.start.result c.start-2.result
    (c.start.ensures ∙ ap (λ (s : Source). data_lens (take c.args.i s.parts)) (c.deref.ensures ∙ ap (λ (m : Measurement). m.config) c.self.view_is))
    (c.start-2.ensures ∙ ap (λ (s : Source). data_lens (take (c.args.i + 1) s.parts)) (c.deref-2.ensures ∙ ap (λ (m : Measurement). m.config) c.self.view_is))

pub returns-clause-long : goal.returns-clause-long
returns-clause-long c =
    let ps = c.args.self.now.config.parts in
    place_long ps c.args.i c.start.result c.start-2.result c.requires
    (c.start.ensures ∙ ap (λ (s : Source). data_lens (take c.args.i s.parts)) (c.deref.ensures ∙ ap (λ (m : Measurement). m.config) c.self.view_is))
    (c.start-2.ensures ∙ ap (λ (s : Source). data_lens (take (c.args.i + 1) s.parts)) (c.deref-2.ensures ∙ ap (λ (m : Measurement). m.config) c.self.view_is))

pub returns-clause-within : goal.returns-clause-within
returns-clause-within c =
    let is : IsMeasurement c.args.self.now = subst IsMeasurement c.self.view_is c.self.invariant.0 in
    place_within c.args.self.now.config.parts c.args.i c.start-2.result (length c.args.self.now.body) is.size
    (c.start-2.ensures ∙ ap (λ (s : Source). data_lens (take (c.args.i + 1) s.parts)) (c.deref-2.ensures ∙ ap (λ (m : Measurement). m.config) c.self.view_is))

pub returns-clause-few : goal.returns-clause-few
returns-clause-few c =
    let is : IsMeasurement c.args.self.now = subst IsMeasurement c.self.view_is c.self.invariant.0 in
    place_near c.args.self.now.config is.config c.args.i c.start.result c.start-2.result c.requires
    (c.start.ensures ∙ ap (λ (s : Source). data_lens (take c.args.i s.parts)) (c.deref.ensures ∙ ap (λ (m : Measurement). m.config) c.self.view_is))
    (c.start-2.ensures ∙ ap (λ (s : Source). data_lens (take (c.args.i + 1) s.parts)) (c.deref-2.ensures ∙ ap (λ (m : Measurement). m.config) c.self.view_is))
