use Rattle.std.proofs.Common.{sym, ◌∙◌, refl}
use Rattle.pg_gateway.specs.GatewayEvents.{add_pmu, told}
use Rattle.pg_serve.proofs.Taking.{no_memory, line_stays, full_refuses, may_add}
use Rattle.pg_serve.proofs.world_core.Core.add_pmu.Goals as goal

pub returns-then-has_source : goal.returns-then-has_source
returns-then-has_source c = record {
  takes = λ m h.
      let step = c.step-reply.ensures.goes m.shared h.gateway in
      line_stays m c.args.key (told c.step-reply.result) _ _ _ _ (sym (c.has_source.ensures.value m.shared h.gateway) ∙ c.if-has_source.true)
      c.in_ok-output.ensures.outcome step.may step.shows h.lines h.sessions;
}

pub returns-then-is_full : goal.returns-then-is_full
returns-then-is_full c = record {
  takes = λ m h.
      let step = c.step-reply-then-is_full.ensures.goes m.shared h.gateway in
      full_refuses m c.args.key (told c.step-reply-then-is_full.result) _ _ _ _ (sym (c.is_full.ensures.value m.shared h.gateway) ∙ c.if-is_full.true)
      c.in_ok-output-2.ensures.outcome step.may step.shows h.lines h.sessions;
}

pub returns-in_ok-add_line-in-Ok : goal.returns-in_ok-add_line-in-Ok
returns-in_ok-add_line-in-Ok c = record {
  takes = λ m h.
      let first = sym (c.has_source.ensures.value m.shared h.gateway) ∙ c.if-has_source.false in
      c.in_ok-add_line-in-Ok.ensures.takes m first (may_add m c.args.key first (sym (c.is_full.ensures.value m.shared h.gateway) ∙ c.if-is_full.false)) h;
}

pub returns-in_ok-refused-in-Err : goal.returns-in_ok-refused-in-Err
returns-in_ok-refused-in-Err c = record {
  takes = λ m h.
      let first = sym (c.has_source.ensures.value m.shared h.gateway) ∙ c.if-has_source.false in
      no_memory m (add_pmu c.args.key) _ _ _ _ refl (may_add m c.args.key first (sym (c.is_full.ensures.value m.shared h.gateway) ∙ c.if-is_full.false)) c.in_ok-refused-in-Err.ensures.outcome h;
}
