use Rattle.std.proofs.Common.{sym, ap, ◌∙◌}
use Rattle.pg_registry.specs.Registered.{has_key}
use Rattle.pg_gateway.specs.Taking.{part_passes}
use Rattle.pg_gateway.proofs.Places.{part_there}
use Rattle.pg_gateway.proofs.Judged.{key_is}
use Rattle.pg_gateway.proofs.blocks.is_registered.Goals as goal

pub returns : goal.returns
returns c =
    let there = part_there c.args.config.now.parts c.args.place c.requires.place in
    c.has.ensures.value
    ∙ ap (has_key c.args.registry.now) (key_is c.args.config.now c.args.place there.0 c.key.result there.1 c.key.ensures.source c.key.ensures.pmu)
    ∙ sym (ap (part_passes (has_key c.args.registry.now) c.args.config.now) there.1)
