use Rattle.std.proofs.Common.{sym, ◌∙◌}
use Rattle.pg_gateway.specs.GatewayEvents.{drop_pmu, told}
use Rattle.pg_gateway.specs.State.{next}
use Rattle.pg_serve.proofs.Taking.{line_dropped, line_kept}
use Rattle.pg_serve.proofs.world_core.Core.drop_pmu.Goals as goal

pub returns-then-not-has_source : goal.returns-then-not-has_source
returns-then-not-has_source c = record {
  takes = λ m h.
      let step = c.step-reply.ensures.goes m.shared h.gateway in
      let gone = sym (c.has_source.ensures.value (next m.shared (drop_pmu c.args.key) (told c.step-reply.result)) step.shows) ∙ c.if-not-has_source.true in
      rw c.shift_remove.ensures.entries (line_dropped m c.args.key (told c.step-reply.result) _ _ _ _ gone c.in_ok-output.ensures.outcome step.may step.shows h.lines h.sessions);
}

pub returns : goal.returns
returns c = record {
  takes = λ m h.
      let step = c.step-reply.ensures.goes m.shared h.gateway in
      let there = sym (c.has_source.ensures.value (next m.shared (drop_pmu c.args.key) (told c.step-reply.result)) step.shows) ∙ c.if-not-has_source.false in
      line_kept m c.args.key (told c.step-reply.result) _ _ _ _ there c.in_ok-output-2.ensures.outcome step.may step.shows h.lines h.sessions;
}
