-- What holds of the states that events leave: the registry and the CFG-1 lists agree.
use Rattle.std.specs.Prelude.{◌≡◌, if◌then◌else◌, [], ◌∷◌, None, IfSome}
use Rattle.pg_wire.specs.declared.ids.PmuKey.{PmuKey}
use Rattle.pg_config.specs.Parts.{IsSource, block_id}
use Rattle.pg_entitle.specs.Grants.{has_key, IsGrantList}
use Rattle.pg_outcfg.specs.Listing.{config_at}
use Rattle.pg_registry.specs.Registered.{Pmus, IsRegistry, config_in}
use Rattle.pg_session.specs.Events as own
use Rattle.pg_session.specs.Events.{SubscriberEvent}
use Rattle.pg_session.specs.Shown.{Model}
use Rattle.pg_gateway.specs.GatewayEvents.{GatewayEvent, asks, announce}
use Rattle.pg_gateway.specs.Sharing.{SubscriberSlots}
use Rattle.pg_gateway.specs.State.{SharedMachine}
use Rattle.pg_gateway.specs.Shown.{GatewayValue, GatewayShows}

-- A subscriber's CFG-1 list has of the keys that it is granted just what their PMUs announced last.
pub record AgreesWith (pmus : Pmus) (p : Model) : Type 0 where
  pub grants : IsGrantList p.grants
  pub listed : (key : PmuKey) → config_at p.listed key ≡ (if has_key p.grants key then config_in pmus key else None)

abbrev pub AllAgree : Pmus → SubscriberSlots → Type 0
AllAgree pmus [] = Unit {0}
AllAgree pmus (s ∷ slots) = AgreesWith pmus s.1.own × AllAgree pmus slots

-- what a PMU announced is of that PMU
abbrev pub AreKeyed : Pmus → Type 0
AreKeyed [] = Unit {0}
AreKeyed (p ∷ pmus) = IfSome p.1.config (λ c. block_id c.block ≡ p.0.pmu) × AreKeyed pmus

pub record IsConsistent (S : SharedMachine) : Type 0 where
  pub registered : IsRegistry S.pmus
  pub keyed : AreKeyed S.pmus
  pub agree : AllAgree S.pmus S.subs

-- The value shows a state that is so.
pub record IsReached (v : GatewayValue) : Type 0 where
  pub state : SharedMachine
  pub shows : GatewayShows v state
  pub consistent : IsConsistent state

-- what one subscriber is asked for itself alone
abbrev pub IsOwn : SubscriberEvent → Type 0
IsOwn (own.grant key config) = ⊥
IsOwn (own.announce list) = ⊥
IsOwn (own.measure soc quality frac samples) = ⊥
IsOwn (own.tick soc) = ⊥
IsOwn _ = Unit {0}

-- An event of the code is so: what a source announced was read, and what is for one subscriber alone is of these seven.
abbrev pub IsPosted : GatewayEvent → Type 0
IsPosted (announce config) = IsSource config
IsPosted (asks u x) = IsOwn x
IsPosted _ = Unit {0}
