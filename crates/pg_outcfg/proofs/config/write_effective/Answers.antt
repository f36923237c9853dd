use Rattle.std.proofs.Common.{◌∙◌, ◌++◌, ap, length, map}
use Rattle.std.specs.Int.{w16, to_be_bytes}
use Rattle.pg_wire.specs.declared.kind.Kind.TheVariants.{CfgTwo}
use Rattle.pg_wire.specs.Heads.{ended}
use Rattle.pg_wire.specs.Stream.{joined}
use Rattle.pg_config.specs.Writing.{block_with_count}
use Rattle.pg_config.proofs.Copying.{config-framed}
use Rattle.pg_outcfg.specs.Frames.{effective_of}
use Rattle.pg_outcfg.proofs.config.write_effective.Goals as goal

pub returns-clause-frame : goal.returns-clause-frame
returns-clause-frame c =
    let d = c.args.definition.now in
    let parts = effective_of c.args.listed.now d.members in
    let members = ap (effective_of c.args.listed.now) c.as_slice-members.ensures.value in
    c.end_config.ensures.bytes
    ∙ ap (λ l. ended (l ++ to_be_bytes w16 d.rate))
    (c.add_effective.ensures.bytes ∙ ap (λ ps. c.in_ok-frame.frame.items ++ joined (map (block_with_count c.args.count) ps)) members
    ∙ ap (λ l. l ++ joined (map (block_with_count c.args.count) parts)) c.in_ok-frame.ensures.bytes)
    ∙ config-framed CfgTwo d.stream c.args.soc d.base d.rate c.args.count c.effective_len-blocks.result.0 c.effective_len-blocks.result.1 parts
    (c.effective_len-blocks.ensures.blocks ∙ ap length members)
    (c.effective_len-blocks.ensures.value c.args.count ∙ ap (λ ps. length (joined (map (block_with_count c.args.count) ps))) members)
