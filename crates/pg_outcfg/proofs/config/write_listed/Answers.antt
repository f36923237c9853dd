use Rattle.std.proofs.Common.{◌∙◌, ◌++◌, ap, sym, map}
use Rattle.std.proofs.lemmas.List.{length-map}
use Rattle.std.specs.Int.{w16, to_be_bytes}
use Rattle.std.specs.Map.{values_of}
use Rattle.pg_wire.specs.declared.kind.Kind.TheVariants.{CfgOne}
use Rattle.pg_wire.specs.Heads.{ended}
use Rattle.pg_wire.specs.Stream.{joined}
use Rattle.pg_config.specs.Writing.{block_with_count}
use Rattle.pg_config.proofs.Copying.{config-framed}
use Rattle.pg_outcfg.specs.Places.{shown}
use Rattle.pg_outcfg.proofs.config.write_listed.Goals as goal

pub returns-clause-frame : goal.returns-clause-frame
returns-clause-frame c =
    let d = c.args.definition.now in
    let parts = values_of (map shown c.args.listed.now) in
    c.end_config.ensures.bytes
    ∙ ap (λ l. ended (l ++ to_be_bytes w16 d.rate)) (c.add_listed.ensures.bytes ∙ ap (λ l. l ++ joined (map (block_with_count c.args.count) parts)) c.in_ok-frame.ensures.bytes)
    ∙ config-framed CfgOne d.stream c.args.soc d.base d.rate c.args.count _ c.listed_len-len.result parts
    (sym (length-map (map shown c.args.listed.now) (λ e. e.1) ∙ length-map c.args.listed.now shown)) (c.listed_len-len.ensures.value c.args.count)
