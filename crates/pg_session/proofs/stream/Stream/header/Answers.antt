use Rattle.std.proofs.Common.{◌≡◌, subst, IfOk}
use Rattle.pg_data.specs.Pieces.{Piece}
use Rattle.pg_align.specs.Slots.{Aligned}
use Rattle.pg_outcfg.specs.Frames.{header_frame}
use Rattle.pg_session.specs.Streams.{StreamOf}
use Rattle.pg_session.proofs.stream.Stream.header.Goals as goal

pub returns-clause-frame : goal.returns-clause-frame
returns-clause-frame c =
    subst (λ (s : StreamOf (Aligned Piece)). IfOk c.header.result (λ v. v.items ≡ header_frame s.definition c.args.soc))
    c.self.view_is c.header.ensures.frame
