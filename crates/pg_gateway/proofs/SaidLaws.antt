-- What a source's registered PMUs announced is, once it is announced, what the registry has and what the subscribers see.
use Rattle.std.proofs.Common.{◌≡◌, ℕ, ◌+◌, ◌||◌, Bool, true, false, true≢false, is_some, if◌then◌else◌, List, [], ◌∷◌, ◌++◌, length, map, filter, Option, Some, None, refl, sym, ap, subst, ◌∙◌, arith}
use Rattle.std.specs.Prelude.{option_map, option_and_then, nat_eq, slice_get}
use Rattle.std.specs.List.{list_any, range_with_len}
use Rattle.std.proofs.lemmas.Bool.Decides.{nat_tests}
use Rattle.std.proofs.lemmas.List.{append_assoc}
use Rattle.pg_wire.specs.declared.ids.PmuKey.{PmuKey}
use Rattle.pg_wire.specs.Keys.{key_eq}
use Rattle.pg_config.specs.Parts.{Part, Source, block_id, repeats}
use Rattle.pg_entitle.specs.Grants as grants
use Rattle.pg_entitle.proofs.Orders.{same_of_eq}
use Rattle.pg_outcfg.specs.Listing.{Listing, config_at}
use Rattle.pg_outcfg.proofs.Places.{at-with}
use Rattle.pg_registry.specs.Registered.{Pmu, Pmus, IsRegistry, pmu_of, has_key, config_in, announcing, changed}
use Rattle.pg_registry.proofs.Staying.{apart-changed, found-changed}
use Rattle.pg_session.specs.Events.{Announcing, key_in, announced_part, announced_at}
use Rattle.pg_session.specs.Private.{put_all}
use Rattle.pg_gateway.specs.Judging.{registered_of, all_announced}
use Rattle.pg_gateway.specs.Sharing.{SubscriberSlot, announces, some_announced, shared_to, after_share}
use Rattle.pg_gateway.specs.Consistent.{AgreesWith, AreKeyed}

-- what a list of announcements says of a PMU, or else what was so before
abbrev pub said : List Announcing → PmuKey → Option Part
said [] k = None
said (a ∷ list) k = if key_eq k a.key then Some a.config else said list k

abbrev pub over : Option Part → Option Part → Option Part
over None before = before
over (Some c) before = Some c

put_said : (listed : Listing) (list : List Announcing) (k : PmuKey) → config_at (put_all listed list) k ≡ over (said list k) (config_at listed k)
put_said listed [] k = refl
put_said listed (a ∷ list) k = at-with (put_all listed list) a.key a.config k ∙ by (key_eq k a.key) (put_said listed list k)
  where
    by : (b : Bool) → config_at (put_all listed list) k ≡ over (said list k) (config_at listed k)
        → (if b then Some a.config else config_at (put_all listed list) k) ≡ over (if b then Some a.config else said list k) (config_at listed k)
    by true rest = refl
    by false rest = rest

-- of granted PMUs the same is said once the others are left out
said_granted : (keys : List PmuKey) (list : List Announcing) (k : PmuKey) → said (filter (λ a. grants.has_key keys a.key) list) k ≡ (if grants.has_key keys k then said list k else None)
said_granted keys [] k = none (grants.has_key keys k)
  where
    none : (b : Bool) → None ≡ (if b then said [] k else None)
    none true = refl
    none false = refl
said_granted keys (a ∷ list) k = by (grants.has_key keys a.key) refl (key_eq k a.key) refl (said_granted keys list k)
  where
    here : (b : Bool) → grants.has_key keys a.key ≡ b → key_eq k a.key ≡ true → grants.has_key keys k ≡ b
    here b held same = ap (grants.has_key keys) (same_of_eq k a.key same) ∙ held

    by : (b : Bool) → grants.has_key keys a.key ≡ b → (c : Bool) → key_eq k a.key ≡ c
        → said (filter (λ a. grants.has_key keys a.key) list) k ≡ (if grants.has_key keys k then said list k else None)
        → said (if b then a ∷ filter (λ a. grants.has_key keys a.key) list else filter (λ a. grants.has_key keys a.key) list) k ≡ (if grants.has_key keys k then (if c then Some a.config else said list k) else None)
    by true held true same rest = rw (here true held same, same) refl
    by true held false other rest = rw other rest
    by false none true same rest = rest ∙ ap (λ b. if b then said list k else None) (here false none same) ∙ sym (ap (λ b. if b then Some a.config else None) (here false none same))
    by false none false other rest = rest

-- Announcements of registered PMUs, each of its own PMU, and no two of one.
pub record AreSaid (has : PmuKey → Bool) (a : Announcing) (list : List Announcing) : Type 0 where
  pub there : has a.key ≡ true
  pub keyed : block_id a.config.block ≡ a.key.pmu
  pub apart : said list a.key ≡ None

abbrev pub AllSaid : (PmuKey → Bool) → List Announcing → Type 0
AllSaid has [] = Unit {0}
AllSaid has (a ∷ list) = AreSaid has a list × AllSaid has list

said_like : (has other : PmuKey → Bool) → ((k : PmuKey) → has k ≡ true → other k ≡ true) → (list : List Announcing) → AllSaid has list → AllSaid other list
said_like has other same [] all = tt
said_like has other same (a ∷ list) all = (record { there = same a.key all.0.there; keyed = all.0.keyed; apart = all.0.apart }, said_like has other same list all.1)

has_still : (a : Announcing) (pmus : Pmus) (k : PmuKey) → has_key pmus k ≡ true → has_key (changed (announcing a.config) a.key pmus) k ≡ true
has_still a pmus k is = ap is_some (found-changed pmus (announcing a.config) a.key k) ∙ by (announcing a.config) (key_eq k a.key) (pmu_of pmus k) ∙ is
  where
    by : (change : Pmu → Pmu) (b : Bool) (o : Option Pmu) → is_some (if b then option_map change o else o) ≡ is_some o
    by change true None = refl
    by change true (Some pmu) = refl
    by change false o = refl

config_now : (a : Announcing) (pmus : Pmus) (k : PmuKey) → has_key pmus a.key ≡ true
    → config_in (changed (announcing a.config) a.key pmus) k ≡ (if key_eq k a.key then Some a.config else config_in pmus k)
config_now a pmus k there =
    ap (option_and_then (λ (pmu : Pmu). pmu.config)) (found-changed pmus (announcing a.config) a.key k) ∙ by (key_eq k a.key) refl (pmu_of pmus k) refl
  where
    here : key_eq k a.key ≡ true → has_key pmus k ≡ true
    here same = ap (has_key pmus) (same_of_eq k a.key same) ∙ there

    by : (b : Bool) → key_eq k a.key ≡ b → (o : Option Pmu) → pmu_of pmus k ≡ o
        → option_and_then (λ (pmu : Pmu). pmu.config) (if b then option_map (announcing a.config) o else o)
        ≡ (if b then Some a.config else option_and_then (λ (pmu : Pmu). pmu.config) o)
    by true same None is = absurd (true≢false (sym (here same) ∙ ap is_some is))
    by true same (Some pmu) is = refl
    by false other o is = refl

pub announced_config : (list : List Announcing) (pmus : Pmus) (k : PmuKey) → AllSaid (has_key pmus) list → config_in (all_announced pmus list) k ≡ over (said list k) (config_in pmus k)
announced_config [] pmus k all = refl
announced_config (a ∷ list) pmus k all =
    announced_config list (changed (announcing a.config) a.key pmus) k (said_like (has_key pmus) _ (has_still a pmus) list all.1)
    ∙ ap (over (said list k)) (config_now a pmus k all.0.there) ∙ by (key_eq k a.key) refl
  where
    by : (b : Bool) → key_eq k a.key ≡ b → over (said list k) (if b then Some a.config else config_in pmus k) ≡ over (if b then Some a.config else said list k) (config_in pmus k)
    by true same = ap (λ o. over o (Some a.config)) (ap (said list) (same_of_eq k a.key same) ∙ all.0.apart)
    by false other = refl

-- what they announced is of them
keyed_now : (a : Announcing) (pmus : Pmus) → block_id a.config.block ≡ a.key.pmu → AreKeyed pmus → AreKeyed (changed (announcing a.config) a.key pmus)
keyed_now a [] own keyed = tt
keyed_now a (p ∷ pmus) own keyed = by (key_eq a.key p.0) refl (keyed_now a pmus own keyed.1)
  where
    by : (b : Bool) → key_eq a.key p.0 ≡ b → AreKeyed (changed (announcing a.config) a.key pmus) → AreKeyed (if b then (p.0, announcing a.config p.1) ∷ pmus else p ∷ changed (announcing a.config) a.key pmus)
    by true same rest = (own ∙ ap (λ (key : PmuKey). key.pmu) (same_of_eq a.key p.0 same), keyed.1)
    by false other rest = (keyed.0, rest)

pub announced_keyed : (list : List Announcing) (has : PmuKey → Bool) (pmus : Pmus) → AllSaid has list → AreKeyed pmus → AreKeyed (all_announced pmus list)
announced_keyed [] has pmus all keyed = keyed
announced_keyed (a ∷ list) has pmus all keyed = announced_keyed list has _ all.1 (keyed_now a pmus all.0.keyed keyed)

pub announced_registry : (list : List Announcing) (pmus : Pmus) → IsRegistry pmus → IsRegistry (all_announced pmus list)
announced_registry [] pmus is = is
announced_registry (a ∷ list) pmus is = announced_registry list _ (apart-changed pmus (announcing a.config) a.key is)

-- A subscriber sees what its PMUs announced.
pub announced_agrees : (pmus : Pmus) (list : List Announcing) → AllSaid (has_key pmus) list → (s : SubscriberSlot) (k : ℕ) → AgreesWith pmus s.own → AgreesWith (all_announced pmus list) (shared_to (announces list) s k).own
announced_agrees pmus list all s kept is = by (filter (λ a. grants.has_key s.own.grants a.key) list) refl
  where
    both : (b : Bool) (o p : Option Part) → over (if b then o else None) (if b then p else None) ≡ (if b then over o p else None)
    both true o p = refl
    both false o p = refl

    lists : (k : PmuKey) → config_at (put_all s.own.listed (filter (λ a. grants.has_key s.own.grants a.key) list)) k ≡ (if grants.has_key s.own.grants k then config_in (all_announced pmus list) k else None)
    lists k =
        put_said s.own.listed (filter (λ a. grants.has_key s.own.grants a.key) list) k
        ∙ ap (λ o. over o (config_at s.own.listed k)) (said_granted s.own.grants list k)
        ∙ ap (over (if grants.has_key s.own.grants k then said list k else None)) (is.listed k)
        ∙ both (grants.has_key s.own.grants k) (said list k) (config_in pmus k)
        ∙ ap (λ o. if grants.has_key s.own.grants k then o else None) (sym (announced_config list pmus k all))

    by : (l : List Announcing) → filter (λ a. grants.has_key s.own.grants a.key) list ≡ l → AgreesWith (all_announced pmus list) (after_share (some_announced l) [] s kept).own
    by [] e = record { grants = is.grants; listed = λ k. ap (λ l. config_at (put_all s.own.listed l) k) (sym e) ∙ lists k }
    by (a ∷ l) e = record { grants = is.grants; listed = λ k. ap (λ l. config_at (put_all s.own.listed l) k) (sym e) ∙ lists k }

-- The registered PMUs of a source that was read are so.
at_front : (front rest : List Part) (part : Part) → slice_get (front ++ part ∷ rest) (length front) ≡ Some part
at_front [] rest part = refl
at_front (p ∷ front) rest part = at_front front rest part

length_more : (front : List Part) (part : Part) → length (front ++ part ∷ []) ≡ length front + 1
length_more [] part = refl
length_more (p ∷ front) part = omega (arith, length_more front part)

in_order : (config : Source) (front rest : List Part) → config.parts ≡ front ++ rest
    → announced_at config (range_with_len (length front) (length rest)) ≡ map (λ part. record { key = key_in config part; config = part }) rest
in_order config front [] is = refl
in_order config front (part ∷ rest) is =
    ap (λ o. announced_part config o ++ announced_at config (range_with_len (length front + 1) (length rest))) (ap (λ parts. slice_get parts (length front)) is ∙ at_front front rest part)
    ∙ ap (λ l. record { key = key_in config part; config = part } ∷ l)
    (ap (λ n. announced_at config (range_with_len n (length rest))) (sym (length_more front part))
    ∙ in_order config (front ++ part ∷ []) rest (is ∙ sym (append_assoc front (part ∷ []) rest)))

none_before : (a b : Bool) → (a || b) ≡ false → (a ≡ false) × (b ≡ false)
none_before true b is = absurd (true≢false is)
none_before false b is = (refl, is)

no_other : (config : Source) (has : PmuKey → Bool) (part : Part) (rest : List Part) → list_any (λ m. nat_eq m (block_id part.block)) (map (λ p. block_id p.block) rest) ≡ false
    → said (filter (λ a. has a.key) (map (λ part. record { key = key_in config part; config = part }) rest)) (key_in config part) ≡ None
no_other config has part [] none = refl
no_other config has part (p ∷ rest) none =
    let split = none_before (nat_eq (block_id p.block) (block_id part.block)) _ none in
    by (has (key_in config p)) (key_eq (key_in config part) (key_in config p)) refl split.0 (no_other config has part rest split.1)
  where
    same_number : key_eq (key_in config part) (key_in config p) ≡ true → nat_eq (block_id p.block) (block_id part.block) ≡ true
    same_number same =
        let alike : key_in config part ≡ key_in config p = same_of_eq (key_in config part) (key_in config p) same in
        ap (λ (key : PmuKey). nat_eq key.pmu (block_id part.block)) (sym alike) ∙ itself (block_id part.block)
      where
        itself : (n : ℕ) → nat_eq n n ≡ true
        itself n = grind (arith, nat_tests)

    by : (b c : Bool) → key_eq (key_in config part) (key_in config p) ≡ c → nat_eq (block_id p.block) (block_id part.block) ≡ false
        → said (filter (λ a. has a.key) (map (λ part. record { key = key_in config part; config = part }) rest)) (key_in config part) ≡ None
        → said (if b then record { key = key_in config p; config = p } ∷ filter (λ a. has a.key) (map (λ part. record { key = key_in config part; config = part }) rest)
        else filter (λ a. has a.key) (map (λ part. record { key = key_in config part; config = part }) rest)) (key_in config part) ≡ None
    by true true same other rest = absurd (true≢false (sym (same_number same) ∙ other))
    by true false is other rest = rw is rest
    by false c is other rest = rest

all_said : (config : Source) (has : PmuKey → Bool) (parts : List Part) → repeats (map (λ p. block_id p.block) parts) ≡ false
    → AllSaid has (filter (λ a. has a.key) (map (λ part. record { key = key_in config part; config = part }) parts))
all_said config has [] none = tt
all_said config has (part ∷ parts) none =
    let split = none_before (list_any (λ m. nat_eq m (block_id part.block)) (map (λ p. block_id p.block) parts)) _ none in
    by (has (key_in config part)) refl split.0 (all_said config has parts split.1)
  where
    by : (b : Bool) → has (key_in config part) ≡ b → list_any (λ m. nat_eq m (block_id part.block)) (map (λ p. block_id p.block) parts) ≡ false
        → AllSaid has (filter (λ a. has a.key) (map (λ part. record { key = key_in config part; config = part }) parts))
        → AllSaid has (if b then record { key = key_in config part; config = part } ∷ filter (λ a. has a.key) (map (λ part. record { key = key_in config part; config = part }) parts)
        else filter (λ a. has a.key) (map (λ part. record { key = key_in config part; config = part }) parts))
    by true there alone rest = (record { there = there; keyed = refl; apart = no_other config has part parts alone }, rest)
    by false none alone rest = rest

pub registered_said : (pmus : Pmus) (config : Source) → repeats (map (λ p. block_id p.block) config.parts) ≡ false → AllSaid (has_key pmus) (registered_of pmus config)
registered_said pmus config none =
    subst (λ list. AllSaid (has_key pmus) (filter (λ a. has_key pmus a.key) list)) (sym (in_order config [] config.parts refl)) (all_said config (has_key pmus) config.parts none)
