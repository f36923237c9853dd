use Rattle.std.proofs.Common.{None, Some, sym, ap, ◌∙◌}
use Rattle.pg_registry.specs.Registered.{has_key, config_in, place_in}
use Rattle.pg_session.specs.Events.{key_in}
use Rattle.pg_gateway.specs.Judging.{block_refusal}
use Rattle.pg_gateway.specs.Placing.{JudgesPart}
use Rattle.pg_gateway.proofs.Judged.{key_is, for_part, some_same}
use Rattle.pg_gateway.proofs.blocks.judge_block.Goals as goal

pub returns-in_default : goal.returns-in_default
returns-in_default c =
    for_part (λ part. JudgesPart c.args.registry.now c.args.last c.args.config.now c.args.soc part None) c.args.config.now.parts c.args.place c.requires.place
    (λ part at.
    let key = key_is c.args.config.now c.args.place part c.key.result at c.key.ensures.source c.key.ensures.pmu in
    ap (has_key c.args.registry.now) (sym key) ∙ sym c.in_default.ensures.found)

pub returns : goal.returns
returns c =
    for_part (λ part. JudgesPart c.args.registry.now c.args.last c.args.config.now c.args.soc part (Some (c.in-Some.at, c.block_refusal-refusal.result))) c.args.config.now.parts c.args.place c.requires.place
    (λ part at.
    let key = key_is c.args.config.now c.args.place part c.key.result at c.key.ensures.source c.key.ensures.pmu in
    let placed = sym c.in-Some.ensures.value in
    let same = some_same c.part_of-part.result.now part (sym c.part_of-part.ensures ∙ at) in (
      ap (has_key c.args.registry.now) (sym key) ∙ sym c.in-Some.ensures.found,
      ap (place_in c.args.registry.now) (sym key) ∙ placed,
      c.in-Some.ensures.within,
      c.block_refusal-refusal.ensures ∙ ap (λ o. block_refusal o c.args.last c.args.soc c.part_of-part.result.now) (c.config_at.ensures.keyed c.key.result placed ∙ ap (config_in c.args.registry.now) key)
          ∙ ap (λ p. block_refusal (config_in c.args.registry.now (key_in c.args.config.now part)) c.args.last c.args.soc p) same,
    ))
