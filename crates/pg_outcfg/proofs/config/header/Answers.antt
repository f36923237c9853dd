use Rattle.std.proofs.Common.{◌≡◌, IfOk, subst}
use Rattle.pg_wire.specs.declared.kind.Kind.TheVariants.{Header}
use Rattle.pg_wire.specs.Head.{frame_of}
use Rattle.pg_config.specs.Writing.{reply_heading}
use Rattle.pg_outcfg.proofs.config.header.Goals as goal

pub returns-clause-frame : goal.returns-clause-frame
returns-clause-frame c =
    subst (λ text. IfOk c.write_header.result (λ v. v.items ≡ frame_of (reply_heading Header c.args.definition.now.stream c.args.soc) text)) c.as_slice.ensures.value c.write_header.ensures.frame
