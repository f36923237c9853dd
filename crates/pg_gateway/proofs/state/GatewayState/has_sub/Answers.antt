use Rattle.std.proofs.Common.{nat_eq, ◌∙◌}
use Rattle.pg_gateway.specs.Shown.{SlotShows}
use Rattle.pg_gateway.proofs.RelatedLaws.{lookup-is_some}
use Rattle.pg_gateway.proofs.state.GatewayState.has_sub.Goals as goal

pub returns : goal.returns
returns c = record {
  value = λ S h.
      let shown = rw (← c.self.view_is) at h in
      c.contains_key.ensures ∙ lookup-is_some SlotShows (nat_eq c.args.sub) _ _ shown.subs;
}
