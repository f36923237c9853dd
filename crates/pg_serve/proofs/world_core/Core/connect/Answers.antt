use Rattle.std.proofs.Common.{sym, ◌∙◌, refl}
use Rattle.pg_session.specs.Events.{connect}
use Rattle.pg_gateway.specs.GatewayEvents.{asks, told}
use Rattle.pg_serve.proofs.Taking.{no_memory, not_connected, absent_connects, busy_connects, may_connect}
use Rattle.pg_serve.proofs.Lines.{session_new}
use Rattle.pg_serve.proofs.world_core.Core.connect.Goals as goal

pub returns-then-not-has_sub : goal.returns-then-not-has_sub
returns-then-not-has_sub c = record {
  takes = λ m h.
      let step = c.step-reply.ensures.goes m.shared h.gateway in
      not_connected m c.args.sub (told c.step-reply.result) _ _ _ _
      (absent_connects m c.args.sub _ (sym (c.has_sub.ensures.value m.shared h.gateway) ∙ c.if-not-has_sub.true) step.may)
      c.in_ok-output.ensures.outcome step.may step.shows h.lines h.sessions;
}

pub returns-then-is_connected : goal.returns-then-is_connected
returns-then-is_connected c = record {
  takes = λ m h.
      let step = c.step-reply-then-is_connected.ensures.goes m.shared h.gateway in
      not_connected m c.args.sub (told c.step-reply-then-is_connected.result) _ _ _ _
      (busy_connects m c.args.sub _ (sym (c.is_connected.ensures.value m.shared h.gateway) ∙ c.if-is_connected.true) step.may)
      c.in_ok-output-2.ensures.outcome step.may step.shows h.lines h.sessions;
}

pub returns-in_ok-add_session-in-Ok : goal.returns-in_ok-add_session-in-Ok
returns-in_ok-add_session-in-Ok c = record {
  takes = λ m h.
      c.in_ok-add_session-in-Ok.ensures.takes m (may_connect m c.args.sub (sym (c.has_sub.ensures.value m.shared h.gateway) ∙ c.if-not-has_sub.false)
      (sym (c.is_connected.ensures.value m.shared h.gateway) ∙ c.if-is_connected.false)) h;
}

pub returns-in_ok-refused-in-Err : goal.returns-in_ok-refused-in-Err
returns-in_ok-refused-in-Err c = record {
  takes = λ m h.
      no_memory m (asks c.args.sub connect) _ _ _ _ refl (may_connect m c.args.sub (sym (c.has_sub.ensures.value m.shared h.gateway) ∙ c.if-not-has_sub.false)
      (sym (c.is_connected.ensures.value m.shared h.gateway) ∙ c.if-is_connected.false)) c.in_ok-refused-in-Err.ensures.outcome h;
}

pub add_session-requires : goal.add_session-requires
add_session-requires c = record { new = session_new _ c.in-Ok.ensures.shows }
