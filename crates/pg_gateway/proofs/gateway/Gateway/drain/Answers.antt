use Rattle.std.proofs.Common.{length}
use Rattle.pg_session.specs.Events.{drain}
use Rattle.pg_gateway.specs.GatewayEvents.{asks, told}
use Rattle.pg_gateway.proofs.TargetLaws.{reached_then}
use Rattle.pg_gateway.proofs.RouteKept.{routes_stay}
use Rattle.pg_gateway.proofs.FrugalLaws.{frugally}
use Rattle.pg_gateway.proofs.AlikeLaws.{leaves_alike, own_blocks}
use Rattle.pg_gateway.proofs.gateway.Gateway.drain.Goals as goal

pub invariant_of-self : goal.invariant_of-self
invariant_of-self c =
    let old = c.self.inside.state in
    let new = c.drain-reply.new.self in
    let e = asks c.args.sub (drain (length c.args.buf.items)) in
    let a = told c.drain-reply.result in (
      reached_then old new e a c.self.invariant.0 tt c.drain-reply.ensures.goes,
      λ fresh. routes_stay old new e a c.self.invariant.0 c.drain-reply.ensures.goes tt _ (c.self.invariant.1 fresh),
    )

pub returns-clause-frugal : goal.returns-clause-frugal
returns-clause-frugal c =
    rw (← c.self.view_is) (frugally c.self.inside.state c.drain-reply.new.self (asks c.args.sub (drain (length c.args.buf.items))) (told c.drain-reply.result) c.drain-reply.ensures.goes (λ may. absurd may))

pub returns-clause-alike : goal.returns-clause-alike
returns-clause-alike c =
    rw (← c.self.view_is) (leaves_alike c.self.inside.state c.drain-reply.new.self (asks c.args.sub (drain (length c.args.buf.items))) (told c.drain-reply.result) c.drain-reply.ensures.goes)

pub returns-clause-own_blocks : goal.returns-clause-own_blocks
returns-clause-own_blocks c =
    rw (← c.self.view_is) (own_blocks c.self.inside.state c.drain-reply.new.self (asks c.args.sub (drain (length c.args.buf.items))) (told c.drain-reply.result) c.drain-reply.ensures.goes)
