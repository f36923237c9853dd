use Rattle.std.proofs.Common.{sym, ◌∙◌, refl}
use Rattle.pg_gateway.specs.GatewayEvents.{add_pmu, told}
use Rattle.pg_serve.proofs.Taking.{no_memory, line_added, line_not_added, entries_after}
use Rattle.pg_serve.proofs.world_core.Core.add_line.Goals as goal

pub returns-in-Err : goal.returns-in-Err
returns-in-Err c = record {
  takes = λ m first none h.
      rw c.reserve.ensures.entries (no_memory m (add_pmu c.args.key) _ _ _ _ refl none c.in_ok-refused-in-Err.ensures.outcome h);
}

pub returns-then-is_done : goal.returns-then-is_done
returns-then-is_done c = record {
  takes = λ m first none h.
      let step = c.step-reply.ensures.goes m.shared h.gateway in
      let added = line_added m c.args.key (told c.step-reply.result) _ _ c.args.self.now.lines.entries c.args.line _ (sym c.is_done.ensures.value ∙ c.if-is_done.true) first c.requires.new
      c.in_ok-output.ensures.outcome step.may step.shows h.lines h.sessions in
      rw (entries_after c.insert.result _ c.in-Ok.ensures.ok c.insert.ensures.succeeds c.insert.ensures.entries, c.reserve.ensures.entries) added;
}

pub returns : goal.returns
returns c = record {
  takes = λ m first none h.
      let step = c.step-reply.ensures.goes m.shared h.gateway in
      rw c.reserve.ensures.entries (line_not_added m c.args.key (told c.step-reply.result) _ _ _ _ (sym c.is_done.ensures.value ∙ c.if-is_done.false)
      c.in_ok-output-2.ensures.outcome step.may step.shows h.lines h.sessions);
}
