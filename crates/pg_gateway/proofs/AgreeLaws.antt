-- What events leave of the agreement between the registry and the CFG-1 lists.
use Rattle.std.proofs.Common.{◌≡◌, ℕ, ◌&&◌, ◌||◌, Bool, true, false, not, cond, if◌then◌else◌, List, [], ◌∷◌, ◌++◌, filter, Option, Some, None, refl, sym, ap, subst, ◌∙◌}
use Rattle.std.specs.Prelude.{option_map, option_and_then, IfSome, nat_eq}
use Rattle.std.specs.Map.{remove_entry}
use Rattle.pg_wire.specs.declared.refusal.Refusal.{Refusal}
use Rattle.pg_wire.specs.declared.refusal.Refusal.TheVariants.{NoMemory, GrantsFull}
use Rattle.pg_wire.specs.declared.ids.PmuKey.{PmuKey}
use Rattle.pg_wire.specs.Keys.{key_eq}
use Rattle.pg_config.specs.Parts.{Part, block_id}
use Rattle.pg_entitle.specs.Grants as grants
use Rattle.pg_entitle.specs.Grants.{IsGrantList, granted, without_key, has_room}
use Rattle.pg_entitle.proofs.Orders.{same_of_eq}
use Rattle.pg_entitle.proofs.Sets.{list-granted, list-without_key, has-granted, has-without_key}
use Rattle.pg_outcfg.specs.Listing.{Listing, config_at, without_config}
use Rattle.pg_outcfg.proofs.Places.{at-with, at-without}
use Rattle.pg_registry.specs.Registered.{Pmu, Pmus, IsRegistry, pmu_of, config_in, taking, refusing, changed}
use Rattle.pg_registry.proofs.Staying.{apart-changed, found-changed, found-dropped}
use Rattle.pg_session.specs.Events as event
use Rattle.pg_session.specs.Events.{SubscriberEvent, Announcing, Sample}
use Rattle.pg_session.specs.Private.{ReplyValue, done, refused, handed, put_first, next, effect, turned}
use Rattle.pg_session.specs.Shown.{Model}
use Rattle.pg_session.specs.ByAll.{by_arrivals, by_numbers}
use Rattle.pg_gateway.specs.Judging.{block_counted, blocks_counted, memory_counted}
use Rattle.pg_gateway.specs.Sharing.{SubscriberSlot, SubscriberSlots, Broadcast, revokes, measures, ticks, some_measured, notes_of, shared_to, after_share, broadcast}
use Rattle.pg_gateway.specs.State.{slot_of, at_slot}
use Rattle.pg_gateway.specs.Consistent.{AgreesWith, AllAgree, AreKeyed}

-- The registry goes on with the same configurations.
pub record Likewise (pmus other : Pmus) : Type 0 where
  pub config : (k : PmuKey) → config_in other k ≡ config_in pmus k
  pub keyed : AreKeyed pmus → AreKeyed other
  pub registered : IsRegistry pmus → IsRegistry other

pub same_registry : (pmus : Pmus) → Likewise pmus pmus
same_registry pmus = record { config = λ k. refl; keyed = λ keyed. keyed; registered = λ is. is }

pub then_likewise : (a b c : Pmus) → Likewise a b → Likewise b c → Likewise a c
then_likewise a b c ab bc = record {
  config = λ k. bc.config k ∙ ab.config k;
  keyed = λ keyed. bc.keyed (ab.keyed keyed);
  registered = λ is. bc.registered (ab.registered is);
}

-- a change of a PMU's counters alone
module _ (change : Pmu → Pmu) (keeps : (pmu : Pmu) → (change pmu).config ≡ pmu.config) where
  kept_keyed : (key : PmuKey) (pmus : Pmus) → AreKeyed pmus → AreKeyed (changed change key pmus)
  kept_keyed key [] keyed = tt
  kept_keyed key (p ∷ pmus) keyed = by (key_eq key p.0) (kept_keyed key pmus keyed.1)
    where
      by : (b : Bool) → AreKeyed (changed change key pmus) → AreKeyed (if b then (p.0, change p.1) ∷ pmus else p ∷ changed change key pmus)
      by true rest = (subst (λ o. IfSome o (λ c. block_id c.block ≡ p.0.pmu)) (sym (keeps p.1)) keyed.0, keyed.1)
      by false rest = (keyed.0, rest)

  kept_config : (pmus : Pmus) (key k : PmuKey) → config_in (changed change key pmus) k ≡ config_in pmus k
  kept_config pmus key k = ap (option_and_then (λ (pmu : Pmu). pmu.config)) (found-changed pmus change key k) ∙ by (key_eq k key) (pmu_of pmus k)
    where
      by : (b : Bool) (o : Option Pmu) → option_and_then (λ (pmu : Pmu). pmu.config) (if b then option_map change o else o) ≡ option_and_then (λ (pmu : Pmu). pmu.config) o
      by true None = refl
      by true (Some pmu) = keeps pmu
      by false o = refl

  pub likewise_changed : (pmus : Pmus) (key : PmuKey) → Likewise pmus (changed change key pmus)
  likewise_changed pmus key = record { config = kept_config pmus key; keyed = kept_keyed key pmus; registered = apart-changed pmus change key }

pub likewise_counted : (pmus : Pmus) (bs : List (PmuKey × Option Refusal)) → Likewise pmus (blocks_counted pmus bs)
likewise_counted pmus [] = same_registry pmus
likewise_counted pmus (b ∷ bs) = then_likewise pmus (changed (block_counted b.1) b.0 pmus) _ (by b.1) (likewise_counted (changed (block_counted b.1) b.0 pmus) bs)
  where
    by : (r : Option Refusal) → Likewise pmus (changed (block_counted r) b.0 pmus)
    by None = likewise_changed taking (λ pmu. refl) pmus b.0
    by (Some r) = likewise_changed (refusing r) (λ pmu. refl) pmus b.0

pub likewise_memory : (pmus : Pmus) (keys : List PmuKey) → Likewise pmus (memory_counted pmus keys)
likewise_memory pmus [] = same_registry pmus
likewise_memory pmus (key ∷ keys) = likewise_changed (refusing NoMemory) (λ pmu. refl) pmus key

-- Subscribers agree with a registry of the same configurations.
agrees_likewise : (pmus other : Pmus) (p : Model) → ((k : PmuKey) → config_in other k ≡ config_in pmus k) → AgreesWith pmus p → AgreesWith other p
agrees_likewise pmus other p same is = record {
  grants = is.grants;
  listed = λ key. is.listed key ∙ ap (λ o. if grants.has_key p.grants key then o else None) (sym (same key));
}

pub all_likewise : (pmus other : Pmus) → ((k : PmuKey) → config_in other k ≡ config_in pmus k) → (ss : SubscriberSlots) → AllAgree pmus ss → AllAgree other ss
all_likewise pmus other same [] all = tt
all_likewise pmus other same (s ∷ ss) all = (agrees_likewise pmus other s.1.own same all.0, all_likewise pmus other same ss all.1)

-- What concerns one subscriber leaves the others.
pub at_agrees : (pmus : Pmus) (u : ℕ) (f : SubscriberSlot → SubscriberSlot) (ss : SubscriberSlots) → ((s : SubscriberSlot) → slot_of u ss ≡ Some s → AgreesWith pmus s.own → AgreesWith pmus (f s).own)
    → AllAgree pmus ss → AllAgree pmus (at_slot u f ss)
at_agrees pmus u f [] each all = tt
at_agrees pmus u f (s ∷ ss) each all = by (nat_eq u s.0) each (at_agrees pmus u f ss)
  where
    by : (b : Bool) → ((t : SubscriberSlot) → cond b (Some s.1) (slot_of u ss) ≡ Some t → AgreesWith pmus t.own → AgreesWith pmus (f t).own)
        → (((t : SubscriberSlot) → slot_of u ss ≡ Some t → AgreesWith pmus t.own → AgreesWith pmus (f t).own) → AllAgree pmus ss → AllAgree pmus (at_slot u f ss))
        → AllAgree pmus (if b then (s.0, f s.1) ∷ ss else s ∷ at_slot u f ss)
    by true here rest = (here s.1 refl all.0, all.1)
    by false here rest = (all.0, rest here all.1)

pub removed_agree : (pmus : Pmus) (test : ℕ → Bool) (ss : SubscriberSlots) → AllAgree pmus ss → AllAgree pmus (remove_entry test ss)
removed_agree pmus test [] all = tt
removed_agree pmus test (s ∷ ss) all = by (test s.0) (removed_agree pmus test ss all.1)
  where
    by : (b : Bool) → AllAgree pmus (remove_entry test ss) → AllAgree pmus (cond b ss (s ∷ remove_entry test ss))
    by true rest = all.1
    by false rest = (all.0, rest)

pub pushed_agree : (pmus : Pmus) (u : ℕ) (s : SubscriberSlot) (ss : SubscriberSlots) → AgreesWith pmus s.own → AllAgree pmus ss → AllAgree pmus (ss ++ (u, s) ∷ [])
pushed_agree pmus u s [] is all = (is, tt)
pushed_agree pmus u s (t ∷ ss) is all = (all.0, pushed_agree pmus u s ss is all.1)

pub fanned_agree : (pmus other : Pmus) (o : Broadcast) → ((s : SubscriberSlot) (k : ℕ) → AgreesWith pmus s.own → AgreesWith other (shared_to o s k).own)
    → (ss : SubscriberSlots) (k : ℕ) → AllAgree pmus ss → AllAgree other (broadcast o ss k)
fanned_agree pmus other o each [] k all = tt
fanned_agree pmus other o each (s ∷ ss) k all = (each s.1 _ all.0, fanned_agree pmus other o each ss _ all.1)

-- A revocation takes the key out of both.
revoked_agrees : (pmus : Pmus) (keys : List PmuKey) (listed : Listing) (key k : PmuKey) → IsGrantList keys
    → config_at listed k ≡ (if grants.has_key keys k then config_in pmus k else None)
    → config_at (without_config listed key) k ≡ (if grants.has_key (without_key keys key) k then config_in pmus k else None)
revoked_agrees pmus keys listed key k list is =
    at-without listed key k ∙ by (key_eq k key) ∙ ap (λ b. if b then config_in pmus k else None) (sym (has-without_key keys key k list.rising))
  where
    by : (b : Bool) → (if b then None else config_at listed k) ≡ (if not b && grants.has_key keys k then config_in pmus k else None)
    by true = refl
    by false = is

pub revoke_agrees : (pmus : Pmus) (p : Model) (key : PmuKey) (kept : ℕ) → AgreesWith pmus p → AgreesWith pmus (effect by_arrivals by_numbers p (event.revoke key) kept)
revoke_agrees pmus p key kept is = record {
  grants = list-without_key p.grants key is.grants;
  listed = λ k. revoked_agrees pmus p.grants p.listed key k is.grants (is.listed k);
}

-- A grant puts what the registry has.
granted_agrees : (pmus : Pmus) (keys : List PmuKey) (listed : Listing) (key k : PmuKey) → grants.has_key keys key ≡ false → has_room keys key ≡ true
    → config_at listed k ≡ (if grants.has_key keys k then config_in pmus k else None)
    → config_at (put_first listed key (config_in pmus key)) k ≡ (if grants.has_key (granted keys key) k then config_in pmus k else None)
granted_agrees pmus keys listed key k none room is =
    by (config_in pmus key) refl (key_eq k key) refl
    ∙ ap (λ b. if grants.has_key keys k || (b && key_eq k key) then config_in pmus k else None) (sym room)
    ∙ ap (λ b. if b then config_in pmus k else None) (sym (has-granted keys key k))
  where
    at_key : (o : Option Part) → key_eq k key ≡ true → config_in pmus key ≡ o → config_in pmus k ≡ o
    at_key o same e = ap (config_in pmus) (same_of_eq k key same) ∙ e

    not_held : key_eq k key ≡ true → grants.has_key keys k ≡ false
    not_held same = ap (grants.has_key keys) (same_of_eq k key same) ∙ none

    or_none : (a : Bool) → (a || false) ≡ a
    or_none true = refl
    or_none false = refl

    others : (if grants.has_key keys k then config_in pmus k else None) ≡ (if grants.has_key keys k || false then config_in pmus k else None)
    others = ap (λ b. if b then config_in pmus k else None) (sym (or_none (grants.has_key keys k)))

    by : (o : Option Part) → config_in pmus key ≡ o → (b : Bool) → key_eq k key ≡ b
        → config_at (put_first listed key o) k ≡ (if grants.has_key keys k || b then config_in pmus k else None)
    by None e true same = is ∙ ap (λ b. if b then config_in pmus k else None) (not_held same) ∙ sym (at_key None same e)
        ∙ ap (λ b. if b || true then config_in pmus k else None) (sym (not_held same))
    by None e false same = is ∙ others
    by (Some c) e true same = at-with listed key c k ∙ ap (λ b. if b then Some c else config_at listed k) same ∙ sym (at_key (Some c) same e)
        ∙ ap (λ b. if b || true then config_in pmus k else None) (sym (not_held same))
    by (Some c) e false same = at-with listed key c k ∙ ap (λ b. if b then Some c else config_at listed k) same ∙ is ∙ others

pub grant_agrees : (pmus : Pmus) (p : Model) (key : PmuKey) (t : ReplyValue) → (has_room p.grants key ≡ false → t ≡ refused GrantsFull) → AgreesWith pmus p
    → AgreesWith pmus (next by_arrivals by_numbers p (event.grant key (config_in pmus key)) t)
grant_agrees pmus p key t full is = by_room (has_room p.grants key) refl
  where
    effects : has_room p.grants key ≡ true → (kept : ℕ) → AgreesWith pmus (effect by_arrivals by_numbers p (event.grant key (config_in pmus key)) kept)
    effects room kept = by (grants.has_key p.grants key) refl
      where
        by : (b : Bool) → grants.has_key p.grants key ≡ b
            → AgreesWith pmus (if b then p else record (turned by_arrivals by_numbers p (event.grant key (config_in pmus key)) kept) { grants = granted p.grants key; listed = put_first p.listed key (config_in pmus key) })
        by true held = is
        by false held = record {
          grants = list-granted p.grants key is.grants;
          listed = λ k. granted_agrees pmus p.grants p.listed key k held room (is.listed k);
        }

    by_told : has_room p.grants key ≡ true → (t : ReplyValue) → AgreesWith pmus (next by_arrivals by_numbers p (event.grant key (config_in pmus key)) t)
    by_told room (done made kept) = effects room kept
    by_told room (refused r) = is
    by_told room (handed bytes begun gap) = effects room 0

    by_room : (b : Bool) → has_room p.grants key ≡ b → AgreesWith pmus (next by_arrivals by_numbers p (event.grant key (config_in pmus key)) t)
    by_room true room = by_told room t
    by_room false none = subst (λ t. AgreesWith pmus (next by_arrivals by_numbers p (event.grant key (config_in pmus key)) t)) (sym (full none)) is

-- Ticks and blocks change neither.
pub ticked_agrees : (pmus : Pmus) (soc : ℕ) (s : SubscriberSlot) (k : ℕ) → AgreesWith pmus s.own → AgreesWith pmus (shared_to (ticks soc) s k).own
ticked_agrees pmus soc s k is = record { grants = is.grants; listed = is.listed }

pub measured_agrees : (pmus : Pmus) (soc quality frac : ℕ) (samples : List Sample) (s : SubscriberSlot) (k : ℕ) → AgreesWith pmus s.own → AgreesWith pmus (shared_to (measures soc quality frac samples) s k).own
measured_agrees pmus soc quality frac samples s k is = by (filter (λ t. grants.has_key s.own.grants t.key) samples)
  where
    by : (l : List Sample) → AgreesWith pmus (after_share (some_measured soc quality frac l) [] s k).own
    by [] = is
    by (t ∷ l) = record { grants = is.grants; listed = is.listed }

-- A PMU that leaves the registry leaves all.
pub dropped_agrees : (pmus : Pmus) (key : PmuKey) → IsRegistry pmus → (s : SubscriberSlot) (k : ℕ) → AgreesWith pmus s.own → AgreesWith (remove_entry (key_eq key) pmus) (shared_to (revokes key) s k).own
dropped_agrees pmus key registry s kept is = by (grants.has_key s.own.grants key) refl
  where
    gone : (k : PmuKey) → config_in (remove_entry (key_eq key) pmus) k ≡ (if key_eq k key then None else config_in pmus k)
    gone k = ap (option_and_then (λ (pmu : Pmu). pmu.config)) (found-dropped pmus key k registry) ∙ into (key_eq k key)
      where
        into : (b : Bool) → option_and_then (λ (pmu : Pmu). pmu.config) (if b then None else pmu_of pmus k) ≡ (if b then None else config_in pmus k)
        into true = refl
        into false = refl

    held : (k : PmuKey) → config_at (without_config s.own.listed key) k ≡ (if grants.has_key (without_key s.own.grants key) k then config_in (remove_entry (key_eq key) pmus) k else None)
    held k =
        at-without s.own.listed key k ∙ one (key_eq k key)
        ∙ ap (λ b. if b then (if key_eq k key then None else config_in pmus k) else None) (sym (has-without_key s.own.grants key k is.grants.rising))
        ∙ ap (λ o. if grants.has_key (without_key s.own.grants key) k then o else None) (sym (gone k))
      where
        one : (b : Bool) → (if b then None else config_at s.own.listed k) ≡ (if not b && grants.has_key s.own.grants k then (if b then None else config_in pmus k) else None)
        one true = refl
        one false = is.listed k

    others : grants.has_key s.own.grants key ≡ false → (k : PmuKey) → config_at s.own.listed k ≡ (if grants.has_key s.own.grants k then config_in (remove_entry (key_eq key) pmus) k else None)
    others none k = is.listed k ∙ one (key_eq k key) refl ∙ ap (λ o. if grants.has_key s.own.grants k then o else None) (sym (gone k))
      where
        one : (b : Bool) → key_eq k key ≡ b → (if grants.has_key s.own.grants k then config_in pmus k else None) ≡ (if grants.has_key s.own.grants k then (if b then None else config_in pmus k) else None)
        one true same = let here = ap (grants.has_key s.own.grants) (same_of_eq k key same) ∙ none in rw here refl
        one false other = refl

    by : (b : Bool) → grants.has_key s.own.grants key ≡ b → AgreesWith (remove_entry (key_eq key) pmus) (after_share (if b then Some (event.revoke key) else None) (notes_of (revokes key)) s kept).own
    by true there = record { grants = list-without_key s.own.grants key is.grants; listed = held }
    by false none = record { grants = is.grants; listed = others none }
