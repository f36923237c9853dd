use Rattle.std.proofs.Common.{sym, ap, subst, ◌∙◌, map}
use Rattle.pg_session.specs.Events.{Announcing, announced_at}
use Rattle.pg_gateway.specs.Sharing.{announces}
use Rattle.pg_gateway.specs.Judging.{all_announced, memory_counted, registered_of}
use Rattle.pg_gateway.specs.Taking.{Fits, IsBroadcast}
use Rattle.pg_gateway.specs.Frugal.{AllSlots}
use Rattle.pg_gateway.proofs.Places.{announced-some}
use Rattle.pg_gateway.proofs.Fitting.{all_fit_announced}
use Rattle.pg_gateway.proofs.AnnounceLaws.{announced_refused, announced_memory, announced_goes, registered_shown, none_announced}
use Rattle.pg_gateway.proofs.state.GatewayState.announce.Goals as goal

pub copy_announced-requires-clause-fits : goal.copy_announced-requires-clause-fits
copy_announced-requires-clause-fits c =
    subst (λ o. AllSlots (Fits o) c.self.inside.subs.entries) (sym (c.requires.event c.deref.result.now))
    (all_fit_announced (announced_at c.args.config.now c.deref.result.now) c.self.inside.subs.entries)

pub returns-then-not-has_registered : goal.returns-then-not-has_registered
returns-then-not-has_registered c = record {
  goes = λ S h.
      let config = c.args.config.now in
      let shown = rw (← c.self.view_is) at h in
      let items = c.has_registered.new.places.items in
      announced_refused config S _ shown (sym (registered_shown config S _ items shown c.has_registered.ensures.registered) ∙ none_announced config items (c.has_registered.ensures.none c.if-not-has_registered.true));
}

pub returns-in-Err : goal.returns-in-Err
returns-in-Err c = record {
  goes = λ S h.
      let config = c.args.config.now in
      let shown = rw (← c.self.view_is) at h in
      let items = c.has_registered.new.places.items in
      let same = registered_shown config S _ items shown c.has_registered.ensures.registered in
      let there = announced-some config 0 items c.has_registered.ensures.rising (c.has_registered.ensures.some c.if-not-has_registered.false) in
      let some = sym same ∙ there.2 in
      let counted = c.count_first.ensures ∙ ap (λ ps. memory_counted c.self.inside.registry (map (λ (a : Announcing). a.key) (announced_at config ps))) c.deref-in-Err.ensures.value
      ∙ ap (λ list. memory_counted c.self.inside.registry (map (λ (a : Announcing). a.key) list)) same ∙ ap (λ pmus. memory_counted pmus (map (λ (a : Announcing). a.key) (registered_of S.pmus config))) shown.pmus in
      rw c.in-Err.ensures.memory (announced_memory config S _ c.count_first.new.registry c.copy_announced.new.subs.entries there.0 there.1 shown some (c.copy_announced.ensures.shows S.subs shown.subs) counted);
}

pub returns : goal.returns
returns c = record {
  goes = λ S h.
      let config = c.args.config.now in
      let shown = rw (← c.self.view_is) at h in
      let items = c.has_registered.new.places.items in
      let same = registered_shown config S _ items shown c.has_registered.ensures.registered in
      let there = announced-some config 0 items c.has_registered.ensures.rising (c.has_registered.ensures.some c.if-not-has_registered.false) in
      let some = sym same ∙ there.2 in
      let put = c.announce_all.ensures.announced ∙ ap (λ ps. all_announced c.self.inside.registry (announced_at config ps)) c.deref-2.ensures.value
      ∙ ap (all_announced c.self.inside.registry) same ∙ ap (λ pmus. all_announced pmus (registered_of S.pmus config)) shown.pmus in
      let offer = c.requires.event c.deref-3.result.now ∙ ap (λ ps. announces (announced_at config ps)) c.deref-3.ensures.value ∙ ap announces same in
      let fans = subst (λ o. IsBroadcast o c.broadcast-made.result.0 c.broadcast-made.result.1 S.subs c.broadcast-made.new.subs.entries) offer (c.broadcast-made.ensures.broadcast S.subs (c.copy_announced.ensures.shows S.subs shown.subs)) in
      announced_goes config S _ c.announce_all.new.registry c.broadcast-made.new.subs.entries c.broadcast-made.result.0 c.broadcast-made.result.1 there.0 there.1 shown some fans c.broadcast-made.ensures.kept put;
}
