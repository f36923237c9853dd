use Rattle.std.proofs.Common.{◌≡◌, subst, IfOk}
use Rattle.pg_data.specs.Pieces.{Piece}
use Rattle.pg_align.specs.Slots.{Aligned}
use Rattle.pg_outcfg.specs.Frames.{cfg1_frame}
use Rattle.pg_session.specs.Streams.{StreamOf}
use Rattle.pg_session.proofs.stream.Stream.cfg1.Goals as goal

pub returns-clause-frame : goal.returns-clause-frame
returns-clause-frame c =
    subst (λ (s : StreamOf (Aligned Piece)). IfOk c.cfg1.result (λ v. v.items ≡ cfg1_frame s.definition s.count c.args.soc c.args.listed.now))
    c.self.view_is c.cfg1.ensures.frame
