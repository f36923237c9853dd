-- Events for all that need no copies, and what the gateway is after events for all.
use Rattle.std.proofs.Common.{◌≡◌, ℕ, ◌≤◌, Bool, true, false, if◌then◌else◌, List, [], ◌∷◌, Some, None, refl, sym, ap, subst, inl, true≢false, ◌∙◌}
use Rattle.std.specs.Map.{remove_entry}
use Rattle.pg_wire.specs.declared.refusal.Refusal.TheVariants.{NoSuchPmu}
use Rattle.pg_wire.specs.declared.ids.PmuKey.{PmuKey}
use Rattle.pg_wire.specs.Keys.{key_eq}
use Rattle.pg_registry.specs.Registered.{has_key}
use Rattle.pg_entitle.specs.Grants as grants
use Rattle.pg_session.specs.Events as event
use Rattle.pg_session.specs.Events.{SubscriberEvent}
use Rattle.pg_session.specs.Private.{refused, done}
use Rattle.pg_gateway.specs.Sharing.{revokes, ticks, total}
use Rattle.pg_gateway.specs.GatewayEvents.{drop_pmu, tells}
use Rattle.pg_gateway.specs.State.{SharedMachine}
use Rattle.pg_gateway.specs.Shown.{SlotValue, GatewayValue, GatewayShows, Steps}
use Rattle.pg_gateway.specs.Taking.{Awaits, IsFit, IsPrepared, HasNone, IsBroadcast}
use Rattle.pg_gateway.specs.Frugal.{AllSlots}

pub slots-map : (P Q : SlotValue → Type 0) → ((v : SlotValue) → P v → Q v) → (xs : List (ℕ × SlotValue)) → AllSlots P xs → AllSlots Q xs
slots-map P Q f [] all = tt
slots-map P Q f (x ∷ xs) all = (f x.1 all.0, slots-map P Q f xs all.1)

pub awaits_tick : (soc : ℕ) (v : SlotValue) → HasNone v → Awaits (ticks soc) v
awaits_tick soc v none = record { fit = tt; prepared = inl (record { blocks = none.0.blocks; configs = none.0.configs }); spared = λ is. absurd (true≢false (sym is ∙ none.1)) }

pub awaits_revoke : (key : PmuKey) (v : SlotValue) → HasNone v → Awaits (revokes key) v
awaits_revoke key v none = record {
  fit = fits (grants.has_key v.subscriber.own.grants key);
  prepared = prepares (grants.has_key v.subscriber.own.grants key);
  spared = λ is. absurd (true≢false (sym is ∙ none.1));
}
  where
    fits : (b : Bool) → IsFit v.subscriber (if b then Some (event.revoke key) else None)
    fits true = tt
    fits false = tt

    prepares : (b : Bool) → IsPrepared v.subscriber (if b then Some (event.revoke key) else None)
    prepares true = inl (record { blocks = none.0.blocks; configs = none.0.configs })
    prepares false = none.0

pub dropped_none : (key : PmuKey) (S : SharedMachine) (v : GatewayValue) → GatewayShows v S → has_key S.pmus key ≡ false → Steps S (drop_pmu key) (tells (refused NoSuchPmu)) v
dropped_none key S v shown none = record { may = rw none refl; shows = rw none (record { pmus = shown.pmus; subs = shown.subs; last_tick = shown.last_tick }) }

pub dropped_goes : (key : PmuKey) (S : SharedMachine) (old : GatewayValue) (entries : List (ℕ × SlotValue)) (made kept : ℕ) → GatewayShows old S → has_key S.pmus key ≡ true
    → IsBroadcast (revokes key) made kept S.subs entries → kept ≤ made
    → Steps S (drop_pmu key) (tells (done made kept)) (record { pmus = remove_entry (key_eq key) old.pmus; subs = entries; last_tick = old.last_tick })
dropped_goes key S old entries made kept shown there fans few =
    let within : kept ≤ total (revokes key) S.subs = subst (λ n. kept ≤ n) fans.count few in
    record {
      may = rw there (inl (kept, within, ap (λ n. tells (done n kept)) fans.count));
      shows = rw there (record { pmus = ap (remove_entry (key_eq key)) shown.pmus; subs = fans.shows; last_tick = shown.last_tick });
    }
