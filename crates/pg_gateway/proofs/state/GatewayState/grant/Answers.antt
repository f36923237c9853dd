use Rattle.std.proofs.Common.{◌≡◌, None, nat_eq, true, false, is_some, sym, ap, subst, ◌∙◌, arith}
use Rattle.std.specs.Prelude.{IfSome}
use Rattle.std.specs.Map.{lookup}
use Rattle.pg_config.specs.Parts.{block_id}
use Rattle.pg_registry.specs.Registered.{has_key, config_in}
use Rattle.pg_session.specs.Events as event
use Rattle.pg_session.specs.Private.{told}
use Rattle.pg_session.specs.Ready.{NeedsNone}
use Rattle.pg_gateway.specs.State.{slot_of, granting, grant_refusal}
use Rattle.pg_gateway.specs.Shown.{SlotShows, SlotValue}
use Rattle.pg_gateway.specs.Taking.{GrantsAt}
use Rattle.pg_gateway.proofs.RelatedLaws.{lookup-is_some}
use Rattle.pg_gateway.proofs.GrantLaws.{told_inside, keyed_at, granted_goes, granted_nobody, granted_unregistered}
use Rattle.pg_gateway.proofs.state.GatewayState.grant.Goals as goal

pub returns-then-not-contains_key : goal.returns-then-not-contains_key
returns-then-not-contains_key c = record {
  goes = λ S h.
      let shown = rw (← c.self.view_is) at h in
      let none = ap (λ pmus. has_key pmus c.args.key.now) (sym shown.pmus) ∙ sym c.has.ensures.value ∙ c.if-not-has.true in
      let same = lookup-is_some SlotShows (nat_eq c.args.sub) _ _ shown.subs in
      let nobody : is_some (lookup (nat_eq c.args.sub) S.subs) ≡ false = grind (arith, same) in
      granted_nobody c.args.sub c.args.key.now S _ h none nobody;
  frugal = λ S h none needs is. cc;
  plain = tt;
}

pub returns-then-not-has : goal.returns-then-not-has
returns-then-not-has c = record {
  goes = λ S h.
      let shown = rw (← c.self.view_is) at h in
      let none = ap (λ pmus. has_key pmus c.args.key.now) (sym shown.pmus) ∙ sym c.has.ensures.value ∙ c.if-not-has.true in
      let same = lookup-is_some SlotShows (nat_eq c.args.sub) _ _ shown.subs in
      let there : is_some (lookup (nat_eq c.args.sub) S.subs) ≡ true = grind (arith, same) in
      granted_unregistered c.args.sub c.args.key.now S _ _ shown none there (c.note_at.ensures.notes S.subs shown.subs);
  frugal = λ S h none needs is. cc;
  plain = tt;
}

pub grant_at-requires-clause-keyed : goal.grant_at-requires-clause-keyed
grant_at-requires-clause-keyed c =
    let reached = c.requires.reached in
    let shown = rw (← c.self.view_is) at reached.shows in
    subst (λ o. IfSome o (λ k. block_id k.block ≡ c.args.key.now.pmu)) (sym (c.config_of-config.ensures.value ∙ ap (λ pmus. config_in pmus c.args.key.now) shown.pmus))
    (keyed_at reached.state.pmus c.args.key.now reached.consistent.keyed)

pub returns : goal.returns
returns c = record {
  goes = λ S h.
      let shown = rw (← c.self.view_is) at h in
      let there = ap (λ pmus. has_key pmus c.args.key.now) (sym shown.pmus) ∙ sym c.has.ensures.value ∙ c.if-not-has.false in
      let held = c.config_of-config.ensures.value ∙ ap (λ pmus. config_in pmus c.args.key.now) shown.pmus in
      let grants = subst (λ o. GrantsAt c.args.sub (event.grant c.args.key.now o) (told c.grant_at.result) S.subs c.grant_at.new.subs.entries) held (c.grant_at.ensures.takes S.subs shown.subs) in
      rw c.reply_of.ensures.told (granted_goes c.args.sub c.args.key.now S _ c.grant_at.new.subs.entries (told c.grant_at.result) shown there grants);
  frugal = λ S h none needs is.
      let shown = rw (← c.self.view_is) at h in
      let wants = rw (← c.self.view_is) at needs in
      let there = ap (λ pmus. has_key pmus c.args.key.now) (sym shown.pmus) ∙ sym c.has.ensures.value ∙ c.if-not-has.false in
      let held = c.config_of-config.ensures.value in
      let kept = ap (λ pmus. config_in pmus c.args.key.now) shown.pmus in
      let first = sym (ap (λ b. grant_refusal (slot_of c.args.sub S.subs) b (granting S c.args.key.now)) there) ∙ none in
      let unrefused = subst (λ o. grant_refusal (slot_of c.args.sub S.subs) true (event.grant c.args.key.now o) ≡ None) (sym (held ∙ kept)) first in
      let needless = subst (λ o. IfSome (lookup (nat_eq c.args.sub) c.self.inside.subs.entries) (λ (v : SlotValue). NeedsNone v.subscriber (event.grant c.args.key.now o))) (sym held) wants in
      c.grant_at.ensures.frugal S.subs shown.subs unrefused needless (told_inside _ _ (sym c.reply_of.ensures.told ∙ is));
  plain = c.reply_of.ensures.plain c.grant_at.ensures.plain;
}
