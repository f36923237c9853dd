use Rattle.std.specs.Arc.{arc_value}
use Rattle.pg_session.proofs.OneBlock.{spread_prepared}
use Rattle.pg_session.proofs.subscriber.Subscriber.prepare_block.Goals as goal

pub returns-then-prepare_one-clause-prepared : goal.returns-then-prepare_one-clause-prepared
returns-then-prepare_one-clause-prepared c =
    spread_prepared c.prepare_one.new.self (arc_value c.args.frame.now) c.args.place c.requires.place (c.prepare_one.ensures.blocks c.if-prepare_one.true) c.prepare_one.ensures.configs
