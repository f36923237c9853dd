use Rattle.std.specs.Arc.{arc_value}
use Rattle.pg_gateway.specs.GatewayEvents.{measure}
use Rattle.pg_gateway.specs.Taking.{told_to_all}
use Rattle.pg_gateway.proofs.TargetLaws.{reached_then}
use Rattle.pg_gateway.proofs.RouteKept.{routes_stay}
use Rattle.pg_gateway.proofs.FrugalLaws.{frugally}
use Rattle.pg_gateway.proofs.AlikeLaws.{leaves_alike, own_blocks}
use Rattle.pg_gateway.proofs.gateway.Gateway.measure.Goals as goal

pub invariant_of-self : goal.invariant_of-self
invariant_of-self c =
    let old = c.self.inside.state in
    let new = c.measure-counts.new.self in
    let e = measure (arc_value c.args.frame.now) in
    let a = told_to_all c.measure-counts.result in (
      reached_then old new e a c.self.invariant.0 tt c.measure-counts.ensures.goes,
      λ fresh. routes_stay old new e a c.self.invariant.0 c.measure-counts.ensures.goes tt _ (c.measure-counts.ensures.routed fresh),
    )

pub returns-clause-frugal : goal.returns-clause-frugal
returns-clause-frugal c =
    rw (← c.self.view_is) (frugally c.self.inside.state c.measure-counts.new.self (measure (arc_value c.args.frame.now)) (told_to_all c.measure-counts.result) c.measure-counts.ensures.goes (λ may. c.measure-counts.ensures.frugal))

pub returns-clause-alike : goal.returns-clause-alike
returns-clause-alike c =
    rw (← c.self.view_is) (leaves_alike c.self.inside.state c.measure-counts.new.self (measure (arc_value c.args.frame.now)) (told_to_all c.measure-counts.result) c.measure-counts.ensures.goes)

pub returns-clause-own_blocks : goal.returns-clause-own_blocks
returns-clause-own_blocks c =
    rw (← c.self.view_is) (own_blocks c.self.inside.state c.measure-counts.new.self (measure (arc_value c.args.frame.now)) (told_to_all c.measure-counts.result) c.measure-counts.ensures.goes)
