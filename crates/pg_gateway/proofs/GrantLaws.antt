-- A PMU is granted.
use Rattle.std.proofs.Common.{◌≡◌, ℕ, ◌≤◌, ◌⊎◌, ◌&&◌, Bool, true, false, true≢false, cond, is_some, List, [], ◌∷◌, Option, Some, None, MatchOption, refl, sym, ap, subst, inl, inr}
use Rattle.std.specs.Prelude.{IfSome, option_and_then}
use Rattle.std.proofs.lemmas.Bool.{eqb-true}
use Rattle.pg_wire.specs.declared.refusal.Refusal.{Refusal}
use Rattle.pg_wire.specs.declared.refusal.Refusal.TheVariants.{NoMemory, NoSuchPmu, NoSuchSub}
use Rattle.pg_wire.specs.declared.ids.PmuKey.{PmuKey}
use Rattle.pg_wire.specs.Keys.{key_eq}
use Rattle.pg_config.specs.Parts.{block_id}
use Rattle.pg_audit.specs.declared.audit.What.TheVariants as audited
use Rattle.pg_registry.specs.Registered.{Pmu, Pmus, pmu_of, has_key, config_in}
use Rattle.pg_session.specs.Private as private
use Rattle.pg_session.specs.Private.{ReplyValue, refused}
use Rattle.pg_session.specs.ByAll.{by_arrivals, by_numbers}
use Rattle.pg_gateway.specs.Related.{Related}
use Rattle.pg_gateway.specs.Sharing.{SubscriberSlot}
use Rattle.pg_gateway.specs.GatewayEvents.{grant, tells}
use Rattle.pg_gateway.specs.State.{SharedMachine, slot_of, at_slot, with_note, granting, grant_refusal, own_frames, own_answer}
use Rattle.pg_gateway.specs.Shown.{SlotValue, SlotShows, GatewayValue, GatewayShows, Steps}
use Rattle.pg_gateway.specs.Taking.{GrantMay, GrantsAt}
use Rattle.pg_gateway.proofs.OneLaws.{at_slot-none}
use Rattle.pg_gateway.specs.Consistent.{AreKeyed}

-- what a PMU announced is of that PMU
pub keyed_at : (pmus : Pmus) (key : PmuKey) → AreKeyed pmus → IfSome (config_in pmus key) (λ c. block_id c.block ≡ key.pmu)
keyed_at [] key keyed = tt
keyed_at (p ∷ pmus) key keyed = by (key_eq key p.0) refl (keyed_at pmus key keyed.1)
  where
    second : (a b : Bool) → (a && b) ≡ true → b ≡ true
    second true b is = is
    second false b is = absurd (true≢false (sym is))

    by : (b : Bool) → key_eq key p.0 ≡ b → IfSome (config_in pmus key) (λ c. block_id c.block ≡ key.pmu)
        → IfSome (option_and_then (λ (pmu : Pmu). pmu.config) (cond b (Some p.1) (pmu_of pmus key))) (λ c. block_id c.block ≡ key.pmu)
    by true is rest = subst (λ n. IfSome p.1.config (λ c. block_id c.block ≡ n)) (sym (eqb-true key.pmu p.0.pmu (second _ _ is))) keyed.0
    by false is rest = rest

pub granted_goes : (u : ℕ) (key : PmuKey) (S : SharedMachine) (old : GatewayValue) (entries : List (ℕ × SlotValue)) (t : ReplyValue) → GatewayShows old S → has_key S.pmus key ≡ true
    → GrantsAt u (granting S key) t S.subs entries → Steps S (grant u key) (tells t) (record { pmus = old.pmus; subs = entries; last_tick = old.last_tick })
granted_goes u key S old entries t shown there grants =
    record {
      may = rw there (by (slot_of u S.subs) grants.may);
      shows = rw there (record { pmus = shown.pmus; subs = grants.shows; last_tick = shown.last_tick });
    }
  where
    told_may : (s : SubscriberSlot) (r : Option Refusal)
        → MatchOption r (((k : ℕ) × (k ≤ own_frames (Some s) (granting S key)) × (false ≡ true → k ≡ 0) × (t ≡ private.answer by_arrivals by_numbers s.own (granting S key) k)) ⊎ ((t ≡ refused NoMemory) × (false ≡ true))) (λ first. t ≡ refused first)
        → MatchOption r (((k : ℕ) × (k ≤ own_frames (Some s) (granting S key)) × (tells t ≡ tells (private.answer by_arrivals by_numbers s.own (granting S key) k))) ⊎ ((tells t ≡ tells (refused NoMemory)) × (true ≡ true))) (λ first. tells t ≡ tells (refused first))
    told_may s None (inl m) = inl (m.0, m.1, ap tells m.3)
    told_may s None (inr m) = inr (ap tells m.0, refl)
    told_may s (Some r) m = ap tells m

    by : (o : Option SubscriberSlot) → GrantMay o (granting S key) t
        → MatchOption (grant_refusal o true (granting S key)) (((k : ℕ) × (k ≤ own_frames o (granting S key)) × (tells t ≡ tells (own_answer o (granting S key) k))) ⊎ ((tells t ≡ tells (refused NoMemory)) × (true ≡ true))) (λ first. tells t ≡ tells (refused first))
    by None m = ap tells m
    by (Some s) (inl m) = told_may s (private.refusal by_arrivals by_numbers s.own (granting S key)) m
    by (Some s) (inr m) = rw m.0 (inr (ap tells m.1, refl))

none_there : (o : Option SubscriberSlot) → is_some o ≡ false → o ≡ None
none_there None none = refl
none_there (Some s) none = absurd (true≢false none)

pub granted_nobody : (u : ℕ) (key : PmuKey) (S : SharedMachine) (v : GatewayValue) → GatewayShows v S → has_key S.pmus key ≡ false → is_some (slot_of u S.subs) ≡ false
    → Steps S (grant u key) (tells (refused NoSuchSub)) v
granted_nobody u key S v shown none nobody =
    let gone = none_there (slot_of u S.subs) nobody in
    record {
      may = rw (none, gone) refl;
      shows = rw none (record { pmus = shown.pmus; subs = rw (at_slot-none u (with_note (audited.Grant, Some NoSuchSub)) S.subs gone) shown.subs; last_tick = shown.last_tick });
    }

pub granted_unregistered : (u : ℕ) (key : PmuKey) (S : SharedMachine) (old : GatewayValue) (entries : List (ℕ × SlotValue)) → GatewayShows old S → has_key S.pmus key ≡ false → is_some (slot_of u S.subs) ≡ true
    → Related SlotShows entries (at_slot u (with_note (audited.Grant, Some NoSuchPmu)) S.subs)
    → Steps S (grant u key) (tells (refused NoSuchPmu)) (record { pmus = old.pmus; subs = entries; last_tick = old.last_tick })
granted_unregistered u key S old entries shown none there noted =
    record {
      may = rw none (by (slot_of u S.subs) there);
      shows = rw none (record { pmus = shown.pmus; subs = noted; last_tick = shown.last_tick });
    }
  where
    by : (o : Option SubscriberSlot) → is_some o ≡ true
        → MatchOption (grant_refusal o false (granting S key)) (((k : ℕ) × (k ≤ 0) × (tells (refused NoSuchPmu) ≡ tells (private.done 0 k))) ⊎ ((tells (refused NoSuchPmu) ≡ tells (refused NoMemory)) × (true ≡ true))) (λ first. tells (refused NoSuchPmu) ≡ tells (refused first))
    by None is = absurd (true≢false (sym is))
    by (Some s) is = refl

pub told_inside : (t r : ReplyValue) → tells t ≡ tells r → t ≡ r
told_inside t r e = cc
