use Rattle.pg_gateway.proofs.RunLaws.{calls_go}
use Rattle.pg_gateway.proofs.machine.GatewayMachine.step.Goals as goal

pub returns : goal.returns
returns c = record {
  law = λ history shown. calls_go c.args.self.now c.step.new.self c.args.event c.step.result history c.step.ensures.goes c.step.ensures.answers shown;
}
