-- Which subscribers hold a PMU, as the bits of a number: subscriber j's is bit j.
use Rattle.std.specs.Prelude.{◌≡◌, ◌≢◌, ◌<◌, ◌≤◌, ℕ, suc, nat_eq, Bool, true, false, if◌then◌else◌, List, [], ◌∷◌, ◌++◌, length, filter, get_or, slice_get, Option, Some, None}
use Rattle.std.specs.Int.{bit_at}
use Rattle.std.specs.Map.{keys_of, values_of}
use Rattle.pg_wire.specs.declared.ids.PmuKey.{PmuKey}
use Rattle.pg_wire.specs.declared.refusal.Refusal.{Refusal}
use Rattle.pg_config.specs.Parts.{Source}
use Rattle.pg_entitle.specs.Grants.{has_key}
use Rattle.pg_registry.specs.Registered.{Pmus}
use Rattle.pg_session.specs.Events as own
use Rattle.pg_session.specs.Events.{SubscriberEvent}
use Rattle.pg_gateway.specs.GatewayEvents.{GatewayEvent, grant, asks, announce, measure, tick, inquires}
use Rattle.pg_gateway.specs.Sharing.{Broadcast, share}
use Rattle.pg_gateway.specs.Shown.{SlotValue, GatewayValue}
use Rattle.pg_gateway.specs.Taking.{part_passes}

-- This holds of each subscriber whose bit in n is b.
abbrev pub WhereBit : ℕ → ℕ → (SlotValue → Type 0) → List (ℕ × SlotValue) → Type 0
WhereBit b n P entries = (j : ℕ) (v : SlotValue) → slice_get (values_of entries) j ≡ Some v → bit_at n j ≡ b → P v

-- only the first of these many bits may be set
abbrev pub HasBits : ℕ → ℕ → Type 0
HasBits len n = (j : ℕ) → len ≤ j → bit_at n j ≡ 0

-- the event is nothing to it
abbrev pub IsPassed : Broadcast → SlotValue → Type 0
IsPassed o v = share o v.subscriber.own.grants ≡ None

-- the bit of a subscriber in the mask of a PMU
abbrev pub bit_of : PmuKey → Option SlotValue → ℕ
bit_of key None = 0
bit_of key (Some v) = if has_key v.subscriber.own.grants key then 1 else 0

-- The mask has just those bits set whose subscribers hold the PMU.
abbrev pub IsMask : List (ℕ × SlotValue) → PmuKey → ℕ → Type 0
IsMask entries key n = (j : ℕ) → bit_at n j ≡ bit_of key (slice_get (values_of entries) j)

-- each PMU's mask, in the order of the PMUs
abbrev pub AreMasks : List (ℕ × SlotValue) → List PmuKey → List ℕ → Type 0
AreMasks entries [] [] = Unit {0}
AreMasks entries (k ∷ keys) (n ∷ masks) = IsMask entries k n × AreMasks entries keys masks
AreMasks entries [] (n ∷ masks) = ⊥
AreMasks entries (k ∷ keys) [] = ⊥

-- the masks of the PMUs whose blocks were taken, of blocks each with its PMU's place and why it is refused, if it is
abbrev pub mask_where : Option Refusal → ℕ → List ℕ
mask_where None mask = mask ∷ []
mask_where (Some r) mask = []

abbrev pub masks_taken : List ℕ → List (ℕ × Option Refusal) → List ℕ
masks_taken masks [] = []
masks_taken masks (b ∷ blocks) = mask_where b.1 (get_or masks b.0 0) ++ masks_taken masks blocks

-- of these places, those whose bits are set in a number: the first one's is bit k
abbrev pub places_at : ℕ → ℕ → List ℕ → List ℕ
places_at n k [] = []
places_at n k (p ∷ places) = (if nat_eq (bit_at n k) 1 then p ∷ [] else []) ++ places_at n (suc k) places

-- the whole of these places, or those whose bits are set in a number
abbrev pub places_held : Bool → ℕ → List ℕ → List ℕ
places_held true n places = places
places_held false n places = places_at n 0 places

-- no other bit of the number is set
abbrev pub IsOnlyBit : ℕ → ℕ → Type 0
IsOnlyBit n i = (bit_at n i ≡ 1) × ((j : ℕ) → j ≢ i → bit_at n j ≡ 0)

-- the PMU at a place is granted to the subscriber
abbrev pub HoldsPart : Source → ℕ → SlotValue → Type 0
HoldsPart source place v = part_passes (has_key v.subscriber.own.grants) source (slice_get source.parts place) ≡ true

-- By the whole or the number, the places of a source's PMUs that a subscriber holds are those that it is granted.
pub record TellsShare (whole : Bool) (n : ℕ) (source : Source) (places : List ℕ) (v : SlotValue) : Type 0 where
  pub bits : whole ≡ false → HasBits (length places) n
  pub held : places_held whole n places
      ≡ filter (λ i. part_passes (has_key v.subscriber.own.grants) source (slice_get source.parts i)) places

-- So it is for each marked subscriber: it holds the whole where its bit is set in `common`, and else its number tells.
abbrev pub SharesTold : ℕ → List ℕ → Source → List ℕ → ℕ → List (ℕ × SlotValue) → Type 0
SharesTold granted_all granted_blocks source places granted_some entries =
    (j : ℕ) (v : SlotValue) → slice_get (values_of entries) j ≡ Some v → bit_at granted_some j ≡ 1
    → TellsShare (nat_eq (bit_at granted_all j) 1) (get_or granted_blocks j 0) source places v

-- where a bit is set in `common`, each mask has it set
abbrev pub AreGrantedAll : ℕ → List ℕ → Type 0
AreGrantedAll granted_all masks = (j : ℕ) → nat_eq (bit_at granted_all j) 1 ≡ true → (i : ℕ) → i < length masks → nat_eq (bit_at (get_or masks i 0) j) 1 ≡ true

-- The masks are turned for the subscribers of some bits: what is bit j of mask i, is bit i of number j.
abbrev pub AreGranted : ℕ → List ℕ → List ℕ → Type 0
AreGranted some masks granted_blocks = (j : ℕ) → bit_at some j ≡ 1 → (i : ℕ) → bit_at (get_or granted_blocks j 0) i ≡ bit_at (get_or masks i 0) j

-- the masks that are kept, and whether nothing happened since that may have changed who holds what
pub record RoutesValue : Type 0 where
  pub fresh : Bool
  pub masks : List ℕ

-- What is kept is what would be computed afresh: while it is fresh, it has each registered PMU's mask.
abbrev pub AreRoutes : List (ℕ × SlotValue) → Pmus → RoutesValue → Type 0
AreRoutes entries pmus routes = routes.fresh ≡ true → AreMasks entries (keys_of pmus) routes.masks

abbrev pub IsRouted : GatewayValue → RoutesValue → Type 0
IsRouted v routes = AreRoutes v.subs v.pmus routes

-- Events that change no grant, no subscriber's place and no PMU's place.
abbrev pub KeepsOwn : SubscriberEvent → Type 0
KeepsOwn (own.grant key config) = ⊥
KeepsOwn (own.announce list) = ⊥
KeepsOwn (own.measure soc quality frac samples) = ⊥
KeepsOwn (own.tick soc) = ⊥
KeepsOwn (own.revoke key) = ⊥
KeepsOwn _ = Unit {0}

abbrev pub KeepsRoutes : GatewayEvent → Type 0
KeepsRoutes (asks u x) = KeepsOwn x
KeepsRoutes (announce config) = Unit {0}
KeepsRoutes (measure m) = Unit {0}
KeepsRoutes (tick soc) = Unit {0}
KeepsRoutes (inquires q) = Unit {0}
KeepsRoutes _ = ⊥
