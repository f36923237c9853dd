use Rattle.pg_gateway.specs.GatewayEvents.{gateway_event, told}
use Rattle.pg_gateway.proofs.TargetLaws.{reached_then}
use Rattle.pg_gateway.proofs.RouteKept.{routes_stay}
use Rattle.pg_gateway.proofs.FrugalLaws.{frugally}
use Rattle.pg_gateway.proofs.AlikeLaws.{leaves_alike, own_blocks}
use Rattle.pg_gateway.proofs.gateway.Gateway.step_other.Goals as goal

pub invariant_of-self : goal.invariant_of-self
invariant_of-self c =
    let old = c.self.inside.state in
    let new = c.step-reply.new.self in
    let e = gateway_event c.args.event in
    let a = told c.step-reply.result in (
      reached_then old new e a c.self.invariant.0 c.posted.ensures c.step-reply.ensures.goes,
      λ fresh.
          let was = c.keep.ensures.fresh fresh in
          let keeps = c.keeps_routes-kept.ensures was.0 in
          let masks = routes_stay old new e a c.self.invariant.0 c.step-reply.ensures.goes keeps _ (c.step-reply.ensures.routed was.1) in
          rw c.keep.ensures.masks masks,
    )

pub returns-clause-frugal : goal.returns-clause-frugal
returns-clause-frugal c =
    rw (← c.self.view_is) (frugally c.self.inside.state c.step-reply.new.self (gateway_event c.args.event) (told c.step-reply.result) c.step-reply.ensures.goes c.step-reply.ensures.copies)

pub returns-clause-alike : goal.returns-clause-alike
returns-clause-alike c =
    rw (← c.self.view_is) (leaves_alike c.self.inside.state c.step-reply.new.self (gateway_event c.args.event) (told c.step-reply.result) c.step-reply.ensures.goes)

pub returns-clause-own_blocks : goal.returns-clause-own_blocks
returns-clause-own_blocks c =
    rw (← c.self.view_is) (own_blocks c.self.inside.state c.step-reply.new.self (gateway_event c.args.event) (told c.step-reply.result) c.step-reply.ensures.goes)
