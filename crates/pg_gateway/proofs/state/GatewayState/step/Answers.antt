use Rattle.std.proofs.Common.{sym, subst}
use Rattle.pg_gateway.specs.GatewayEvents.{gateway_event, told}
use Rattle.pg_gateway.specs.Shown.{Goes}
use Rattle.pg_gateway.specs.Frugal.{Frugal}
use Rattle.pg_gateway.specs.Taking.{MayCopy}
use Rattle.pg_gateway.proofs.PlainLaws.{plain_answers}
use Rattle.pg_gateway.proofs.state.GatewayState.step.Goals as goal

pub returns-in-Grant-clause-goes : goal.returns-in-Grant-clause-goes
returns-in-Grant-clause-goes c = subst (λ e. Goes c.args.self.now (gateway_event e) (told c.grant.result) c.grant.new.self) (sym c.in-Grant.is) c.grant.ensures.goes

pub returns-in-Command-clause-goes : goal.returns-in-Command-clause-goes
returns-in-Command-clause-goes c = subst (λ e. Goes c.args.self.now (gateway_event e) (told c.ask-in-Command.result) c.ask-in-Command.new.self) (sym c.in-Command.is) c.ask-in-Command.ensures.goes

pub returns-in-Stats-clause-goes : goal.returns-in-Stats-clause-goes
returns-in-Stats-clause-goes c = subst (λ e. Goes c.args.self.now (gateway_event e) (told c.stats.result) c.args.self.now) (sym c.in-Stats.is) c.stats.ensures.goes

pub returns-in-PmuStats-clause-goes : goal.returns-in-PmuStats-clause-goes
returns-in-PmuStats-clause-goes c = subst (λ e. Goes c.args.self.now (gateway_event e) (told c.pmu_stats.result) c.args.self.now) (sym c.in-PmuStats.is) c.pmu_stats.ensures.goes

pub returns-in-Audit-clause-goes : goal.returns-in-Audit-clause-goes
returns-in-Audit-clause-goes c = subst (λ e. Goes c.args.self.now (gateway_event e) (told c.audit.result) c.args.self.now) (sym c.in-Audit.is) c.audit.ensures.goes

pub returns-in-Standing-clause-goes : goal.returns-in-Standing-clause-goes
returns-in-Standing-clause-goes c = subst (λ e. Goes c.args.self.now (gateway_event e) (told c.standing.result) c.args.self.now) (sym c.in-Standing.is) c.standing.ensures.goes

pub returns-in-Command-clause-copies : goal.returns-in-Command-clause-copies
returns-in-Command-clause-copies c = λ may. absurd (subst (λ e. MayCopy (gateway_event e)) c.in-Command.is may)

pub returns-in-Stats-clause-copies : goal.returns-in-Stats-clause-copies
returns-in-Stats-clause-copies c = λ may. absurd (subst (λ e. MayCopy (gateway_event e)) c.in-Stats.is may)

pub returns-in-PmuStats-clause-copies : goal.returns-in-PmuStats-clause-copies
returns-in-PmuStats-clause-copies c = λ may. absurd (subst (λ e. MayCopy (gateway_event e)) c.in-PmuStats.is may)

pub returns-in-Audit-clause-copies : goal.returns-in-Audit-clause-copies
returns-in-Audit-clause-copies c = λ may. absurd (subst (λ e. MayCopy (gateway_event e)) c.in-Audit.is may)

pub returns-in-Standing-clause-copies : goal.returns-in-Standing-clause-copies
returns-in-Standing-clause-copies c = λ may. absurd (subst (λ e. MayCopy (gateway_event e)) c.in-Standing.is may)

pub returns-in-Grant-clause-copies : goal.returns-in-Grant-clause-copies
returns-in-Grant-clause-copies c = λ may. subst (λ e. Frugal c.args.self.now (gateway_event e) (told c.grant.result)) (sym c.in-Grant.is) c.grant.ensures.frugal

pub returns-in-WhoWaits-clause-goes : goal.returns-in-WhoWaits-clause-goes
returns-in-WhoWaits-clause-goes c = subst (λ e. Goes c.args.self.now (gateway_event e) (told c.who_waits.result) c.args.self.now) (sym c.in-WhoWaits.is) c.who_waits.ensures.goes

pub returns-in-WhoWaits-clause-copies : goal.returns-in-WhoWaits-clause-copies
returns-in-WhoWaits-clause-copies c = λ may. absurd (subst (λ e. MayCopy (gateway_event e)) c.in-WhoWaits.is may)

pub returns-in_default-clause-goes : goal.returns-in_default-clause-goes
returns-in_default-clause-goes c = rw c.reply_to_all.ensures.told c.step_all.ensures.goes

pub returns-in_default-clause-copies : goal.returns-in_default-clause-copies
returns-in_default-clause-copies c = rw c.reply_to_all.ensures.told c.step_all.ensures.copies

pub returns-in_default-clause-answers : goal.returns-in_default-clause-answers
returns-in_default-clause-answers c = plain_answers c.args.event c.reply_to_all.result c.in_default.not-Drain c.reply_to_all.ensures.plain
