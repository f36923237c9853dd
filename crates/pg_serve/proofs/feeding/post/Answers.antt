use Rattle.pg_gateway.specs.GatewayEvents.{gateway_event, told}
use Rattle.pg_serve.proofs.Doing.{Did-event}
use Rattle.pg_serve.proofs.feeding.post.Goals as goal

pub returns : goal.returns
returns c = record { did = λ S shows. Did-event S (gateway_event c.args.event) (told c.step-reply.result) _ _ c.args.gateway.now c.step-reply.new.self shows c.step-reply.ensures.goes c.in_ok-note.ensures.noted }
