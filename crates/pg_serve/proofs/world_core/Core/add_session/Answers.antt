use Rattle.std.proofs.Common.{sym, ◌∙◌, refl}
use Rattle.pg_session.specs.Events.{connect}
use Rattle.pg_gateway.specs.GatewayEvents.{asks, told}
use Rattle.pg_serve.proofs.Taking.{no_memory, session_added, not_connected, entries_after}
use Rattle.pg_serve.proofs.world_core.Core.add_session.Goals as goal

pub returns-in-Err : goal.returns-in-Err
returns-in-Err c = record {
  takes = λ m none h.
      rw c.reserve.ensures.entries (no_memory m (asks c.args.sub connect) _ _ _ _ refl none c.in_ok-refused-in-Err.ensures.outcome h);
}

pub returns-then-is_done : goal.returns-then-is_done
returns-then-is_done c = record {
  takes = λ m none h.
      let step = c.step-reply.ensures.goes m.shared h.gateway in
      let added = session_added m c.args.sub (told c.step-reply.result) _ _ _ c.args.self.now.sessions.entries c.args.session (sym c.is_done.ensures.value ∙ c.if-is_done.true) c.requires.new
      c.in_ok-output.ensures.outcome step.may step.shows h.lines h.sessions in
      rw (entries_after c.insert.result _ c.in-Ok.ensures.ok c.insert.ensures.succeeds c.insert.ensures.entries, c.reserve.ensures.entries) added;
}

pub returns : goal.returns
returns c = record {
  takes = λ m none h.
      let step = c.step-reply.ensures.goes m.shared h.gateway in
      rw c.reserve.ensures.entries (not_connected m c.args.sub (told c.step-reply.result) _ _ _ _ (sym c.is_done.ensures.value ∙ c.if-is_done.false)
      c.in_ok-output-2.ensures.outcome step.may step.shows h.lines h.sessions);
}
