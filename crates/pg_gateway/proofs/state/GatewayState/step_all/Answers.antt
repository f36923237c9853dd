use Rattle.pg_gateway.proofs.PlainLaws.{one_of_four}
use Rattle.pg_gateway.proofs.state.GatewayState.step_all.Goals as goal

pub unreachable-requires : goal.unreachable-requires
unreachable-requires c = one_of_four c.args.event.now c.requires.all c.in_default.not-DropPmu c.in_default.not-Announce c.in_default.not-Measure c.in_default.not-Tick
