use Rattle.std.proofs.Common.{◌≡◌, false, [], ◌∷◌, sym, subst, ◌∙◌}
use Rattle.pg_data.specs.Pieces.{Piece}
use Rattle.pg_align.specs.Slots.{Aligned}
use Rattle.pg_session.specs.Events.{samples_at}
use Rattle.pg_session.specs.Streams.{StreamOf}
use Rattle.pg_session.proofs.Streaming.{off_sends}
use Rattle.pg_session.proofs.stream.Stream.measure_one.Goals as goal

pub returns-then-not-is_on-clause-sends : goal.returns-then-not-is_on-clause-sends
returns-then-not-is_on-clause-sends c =
    let m = c.args.frame.now in
    let off : c.self.inside.align.is_on ≡ false = sym c.is_on.ensures.shown ∙ c.if-not-is_on.true in
    off_sends c.args.listed.now m.soc m.quality m.frac (samples_at m (c.args.place ∷ [])) c.args.self.now c.args.output.now
    (subst (λ (s : StreamOf (Aligned Piece)). s.slots.is_on ≡ false) c.self.view_is off)
