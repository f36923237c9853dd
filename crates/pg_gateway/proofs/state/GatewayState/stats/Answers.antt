use Rattle.std.proofs.Common.{nat_eq, sym, ◌∙◌}
use Rattle.pg_gateway.specs.Shown.{SlotShows}
use Rattle.pg_gateway.proofs.RelatedLaws.{lookup-none, lookup-some}
use Rattle.pg_gateway.proofs.AskLaws.{stats_none, stats_some}
use Rattle.pg_gateway.proofs.state.GatewayState.stats.Goals as goal

pub returns-in-None-clause-goes : goal.returns-in-None-clause-goes
returns-in-None-clause-goes c = λ S h.
    let shown = rw (← c.self.view_is) at h in
    stats_none c.args.sub S _ h (lookup-none SlotShows (nat_eq c.args.sub) _ _ shown.subs (sym c.in-None.ensures.value))

pub returns-in-Some-clause-goes : goal.returns-in-Some-clause-goes
returns-in-Some-clause-goes c = λ S h.
    let shown = rw (← c.self.view_is) at h in
    let found = lookup-some SlotShows (nat_eq c.args.sub) c.in-Some.slot.now _ _ shown.subs (sym c.in-Some.ensures.value) in
    stats_some c.args.sub S _ found.0 _ h found.1 (c.stats.ensures ∙ found.2.subscriber.stats)
