use Rattle.std.proofs.Common.{◌∙◌, ap, arith}
use Rattle.pg_wire.specs.declared.kind.Kind.TheVariants.{Header}
use Rattle.pg_wire.specs.Heads.{start_of}
use Rattle.pg_config.specs.Writing.{reply_heading}
use Rattle.pg_config.proofs.Copying.{framed, header-spelled}
use Rattle.pg_config.proofs.write.write_header.Goals as goal

written : goal.returns-clause-frame
written c =
    framed (reply_heading Header c.args.id c.args.soc) c.reply_head.result.size c.args.text.now
    c.in_ok-frame.frame.items c.extend_from_slice.new.self.items c.end_frame.new.frame.items
    (c.in_ok-frame.ensures.bytes ∙ ap (λ h. start_of h c.reply_head.result.size) c.reply_head.ensures.heading)
    c.reply_head.ensures.size
    c.in_ok-extend_from_slice.ensures.items
    c.end_frame.ensures.bytes

pub returns-clause-frame : goal.returns-clause-frame
returns-clause-frame c = written c

pub returns-clause-spelled : goal.returns-clause-spelled
returns-clause-spelled c = header-spelled c.args.id c.args.soc c.end_frame.new.frame.items c.args.text.now (omega (arith, c.reply_head.ensures.id)) (omega arith) c.requires.size c.requires.ascii (written c)
