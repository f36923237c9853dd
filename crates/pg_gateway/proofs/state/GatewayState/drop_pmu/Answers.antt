use Rattle.std.proofs.Common.{sym, ap, subst, ◌∙◌}
use Rattle.pg_registry.specs.Registered.{has_key}
use Rattle.pg_gateway.specs.Taking.{Awaits, HasNone, IsBroadcast}
use Rattle.pg_gateway.specs.Frugal.{AllSlots}
use Rattle.pg_gateway.specs.Sharing.{revokes}
use Rattle.pg_gateway.proofs.AllLaws.{slots-map, awaits_revoke, dropped_none, dropped_goes}
use Rattle.pg_gateway.proofs.state.GatewayState.drop_pmu.Goals as goal

pub broadcast-made-requires-clause-awaits : goal.broadcast-made-requires-clause-awaits
broadcast-made-requires-clause-awaits c =
    subst (λ o. AllSlots (Awaits o) c.self.inside.subs.entries) (sym c.requires.event)
    (slots-map HasNone (Awaits (revokes c.args.key.now)) (awaits_revoke c.args.key.now) c.self.inside.subs.entries c.self.invariant.1)

pub returns-then-not-has : goal.returns-then-not-has
returns-then-not-has c = record {
  goes = λ S h.
      let shown = rw (← c.self.view_is) at h in
      dropped_none c.args.key.now S _ h (ap (λ pmus. has_key pmus c.args.key.now) (sym shown.pmus) ∙ sym c.has.ensures.value ∙ c.if-not-has.true);
}

pub returns : goal.returns
returns c = record {
  goes = λ S h.
      let shown = rw (← c.self.view_is) at h in
      let there = ap (λ pmus. has_key pmus c.args.key.now) (sym shown.pmus) ∙ sym c.has.ensures.value ∙ c.if-not-has.false in
      let fans = c.broadcast-made.ensures.broadcast S.subs shown.subs in
      rw c.drop_pmu-dropped.ensures.list (dropped_goes c.args.key.now S _ _ _ _ shown there (subst (λ o. IsBroadcast o c.broadcast-made.result.0 c.broadcast-made.result.1 S.subs c.broadcast-made.new.subs.entries) c.requires.event fans) c.broadcast-made.ensures.kept);
}
