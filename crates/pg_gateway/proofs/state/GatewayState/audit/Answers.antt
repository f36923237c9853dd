use Rattle.std.proofs.Common.{nat_eq, sym}
use Rattle.pg_gateway.specs.Shown.{SlotShows}
use Rattle.pg_gateway.proofs.RelatedLaws.{lookup-none, lookup-some}
use Rattle.pg_gateway.proofs.AskLaws.{audit_none, audit_some}
use Rattle.pg_gateway.proofs.state.GatewayState.audit.Goals as goal

pub returns-in-None-clause-goes : goal.returns-in-None-clause-goes
returns-in-None-clause-goes c = λ S h.
    let shown = rw (← c.self.view_is) at h in
    audit_none c.args.sub c.args.index S _ h (lookup-none SlotShows (nat_eq c.args.sub) _ _ shown.subs (sym c.in-None.ensures.value))

pub returns-in-Some-clause-goes : goal.returns-in-Some-clause-goes
returns-in-Some-clause-goes c = λ S h.
    let shown = rw (← c.self.view_is) at h in
    let found = lookup-some SlotShows (nat_eq c.args.sub) c.in-Some.slot.now _ _ shown.subs (sym c.in-Some.ensures.value) in
    audit_some c.args.sub c.args.index S _ found.0 _ h found.1 (c.noted.ensures found.0 found.2)
