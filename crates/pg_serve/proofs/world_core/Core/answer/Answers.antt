use Rattle.pg_gateway.specs.GatewayEvents.{gateway_event, told}
use Rattle.pg_serve.proofs.Taking.{spared}
use Rattle.pg_serve.proofs.world_core.Core.answer.Goals as goal

pub returns : goal.returns
returns c = record {
  takes = λ m h.
      let step = c.step-reply.ensures.goes m.shared h.gateway in
      spared m (gateway_event c.args.event) (told c.step-reply.result) _ _ _ _ c.requires.spares c.in_ok-output.ensures.outcome step.may step.shows h.lines h.sessions;
}
