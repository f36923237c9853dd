use Rattle.std.proofs.Common.{nat_eq, sym, ap, ◌∙◌, option_map, false}
use Rattle.std.specs.Option.{option_map_or}
use Rattle.pg_gateway.specs.Sharing.{SubscriberSlot as SlotState}
use Rattle.pg_gateway.specs.Shown.{SlotShows, SlotValue}
use Rattle.pg_gateway.proofs.RelatedLaws.{lookup-none, lookup-some}
use Rattle.pg_gateway.proofs.state.GatewayState.is_connected.Goals as goal

pub returns-in-None : goal.returns-in-None
returns-in-None c = record {
  value = λ S h.
      let shown = rw (← c.self.view_is) at h in
      let none = lookup-none SlotShows (nat_eq c.args.sub) _ _ shown.subs (sym c.in-None.ensures.value) in
      sym (ap (λ o. option_map_or (λ p. p.connected) (option_map (λ (s : SlotState). s.own) o) false) none);
}

pub returns-in-Some : goal.returns-in-Some
returns-in-Some c = record {
  value = λ S h.
      let shown = rw (← c.self.view_is) at h in
      let found = lookup-some SlotShows (nat_eq c.args.sub) c.in-Some.slot.now _ _ shown.subs (sym c.in-Some.ensures.value) in
      c.is_connected.ensures.value ∙ ap (λ (v : SlotValue). v.subscriber.own.connected) c.slot.view_is ∙ found.2.subscriber.connected
      ∙ sym (ap (λ o. option_map_or (λ p. p.connected) (option_map (λ (s : SlotState). s.own) o) false) found.1);
}
