use Rattle.std.proofs.Common.{sym, ◌∙◌}
use Rattle.pg_gateway.proofs.AnnounceLaws.{first_counted}
use Rattle.pg_gateway.proofs.announcing.count_first.Goals as goal

pub returns-in-Some : goal.returns-in-Some
returns-in-Some c =
    c.count_memory_of.ensures
    ∙ first_counted c.args.config.now c.args.places.now c.in-Some.first.now c.key.result c.args.registry.now c.requires.rising (sym c.in-Some.ensures.value) c.key.ensures.source c.key.ensures.pmu
