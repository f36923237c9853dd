use Rattle.std.proofs.Common.{sym, subst}
use Rattle.pg_gateway.specs.GatewayEvents.{gateway_event, told}
use Rattle.pg_gateway.specs.Shown.{Goes}
use Rattle.pg_gateway.proofs.gateway.Gateway.step.Goals as goal

pub returns-in-Measure-clause-goes : goal.returns-in-Measure-clause-goes
returns-in-Measure-clause-goes c =
    subst (λ e. Goes c.args.self.now (gateway_event e) (told c.reply_to_all.result) c.measure.new.self) (sym c.in-Measure.is) (rw c.reply_to_all.ensures.told c.measure.ensures.goes)

pub returns-in-Drain-clause-goes : goal.returns-in-Drain-clause-goes
returns-in-Drain-clause-goes c =
    subst (λ e. Goes c.args.self.now (gateway_event e) (told c.drain.result) c.drain.new.self) (sym c.in-Drain.is) c.drain.ensures.goes
