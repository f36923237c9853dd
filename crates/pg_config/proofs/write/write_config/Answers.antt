use Rattle.std.proofs.Common.{◌∙◌, ◌++◌, ap, sym, map}
use Rattle.std.proofs.lemmas.List.{length-map}
use Rattle.std.specs.Arc.{arc_value}
use Rattle.std.specs.Int.{w16, to_be_bytes}
use Rattle.pg_wire.specs.Heads.{ended}
use Rattle.pg_wire.specs.Stream.{joined}
use Rattle.pg_config.specs.Writing.{block_with_count}
use Rattle.pg_config.proofs.Copying.{config-framed}
use Rattle.pg_config.proofs.write.write_config.Goals as goal

pub returns-clause-frame : goal.returns-clause-frame
returns-clause-frame c =
    let parts = map arc_value c.args.parts.now in
    c.end_config.ensures.bytes
    ∙ ap (λ l. ended (l ++ to_be_bytes w16 c.args.rate))
    (c.add_blocks.ensures.bytes ∙ ap (λ l. l ++ joined (map (block_with_count c.args.count) parts)) c.in_ok-frame.ensures.bytes)
    ∙ config-framed c.args.kind c.args.id c.args.soc c.args.base c.args.rate c.args.count _ c.blocks_len.result parts
    (sym (length-map c.args.parts.now arc_value)) (c.blocks_len.ensures.value c.args.count)
