use Rattle.std.proofs.Common.{sym, ◌∙◌}
use Rattle.pg_gateway.specs.GatewayEvents.{gateway_event, told}
use Rattle.pg_serve.proofs.Taking.{ended, not_ended}
use Rattle.pg_serve.proofs.world_core.Core.end_session.Goals as goal

pub returns-then-is_done : goal.returns-then-is_done
returns-then-is_done c = record {
  takes = λ m h.
      let step = c.step-reply.ensures.goes m.shared h.gateway in
      rw c.shift_remove.ensures.entries (ended c.args.sub m (gateway_event c.args.event) (told c.step-reply.result) _ _ _ _ c.requires.ends (sym c.is_done.ensures.value ∙ c.if-is_done.true)
      c.in_ok-output.ensures.outcome step.may step.shows h.lines h.sessions);
}

pub returns : goal.returns
returns c = record {
  takes = λ m h.
      let step = c.step-reply.ensures.goes m.shared h.gateway in
      not_ended c.args.sub m (gateway_event c.args.event) (told c.step-reply.result) _ _ _ _ c.requires.ends (sym c.is_done.ensures.value ∙ c.if-is_done.false)
      c.in_ok-output-2.ensures.outcome step.may step.shows h.lines h.sessions;
}
