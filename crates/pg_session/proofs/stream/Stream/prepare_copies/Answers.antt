use Rattle.std.proofs.Common.{◌≡◌, true, false, [], sym, ◌∙◌, subst}
use Rattle.std.specs.Arc.{arc_value}
use Rattle.pg_data.specs.Pieces.{Piece}
use Rattle.pg_align.specs.Slots.{Aligned}
use Rattle.pg_session.specs.Events.{samples_at}
use Rattle.pg_session.specs.Streams.{StreamOf}
use Rattle.pg_session.specs.Wanted.{wanted_of}
use Rattle.pg_session.proofs.Preparing.{on_wanted}
use Rattle.pg_session.proofs.stream.Stream.prepare_copies.Goals as goal

pub returns-in_err-copy_members-clause-needless : goal.returns-in_err-copy_members-clause-needless
returns-in_err-copy_members-clause-needless c = λ empty.
    let quality = (arc_value c.args.frame.now).quality in
    let samples = samples_at (arc_value c.args.frame.now) c.args.places.now in
    let s : StreamOf (Aligned Piece) = record { definition = c.self.inside.definition; slots = c.self.inside.align; count = c.self.inside.changes; layouts = c.self.inside.layouts } in
    let wanted : wanted_of s quality samples ≡ [] = subst (λ (t : StreamOf (Aligned Piece)). wanted_of t quality samples ≡ []) (sym c.self.view_is) empty in
    let none = on_wanted s quality samples (sym c.is_on.ensures.shown ∙ c.if-not-is_on.false) wanted in
    absurd (let never : false ≡ true = c.in_err-copy_members.ensures.needless none in cc never)
