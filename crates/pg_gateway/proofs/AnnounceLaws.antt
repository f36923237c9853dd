-- What a source announced reaches the registry, and what the gateway is then.
use Rattle.std.proofs.Common.{◌≡◌, ℕ, ◌+◌, ◌<◌, ◌≤◌, List, [], ◌∷◌, ◌++◌, length, map, drop, get_or, slice_get, Some, None, refl, sym, ap, subst, ◌∙◌, arith, inl, inr}
use Rattle.std.specs.Prelude.{IfSome}
use Rattle.std.proofs.lemmas.List.{drop_more}
use Rattle.pg_wire.specs.declared.refusal.Refusal.TheVariants.{NoMemory, NoSuchPmu}
use Rattle.pg_wire.specs.declared.ids.PmuKey.{PmuKey}
use Rattle.pg_config.specs.Parts.{Part, Source, block_id}
use Rattle.pg_registry.specs.Registered.{Pmus, announcing, refusing, changed}
use Rattle.pg_session.specs.Events.{Announcing, config_of, key_in, announced_part, announced_at}
use Rattle.pg_session.specs.Private.{refused, done}
use Rattle.pg_session.specs.Ready.{AreRising}
use Rattle.pg_gateway.specs.Related.{Related}
use Rattle.pg_gateway.specs.Sharing.{announces, total}
use Rattle.pg_gateway.specs.Judging.{registered_of, all_announced, memory_counted}
use Rattle.pg_gateway.specs.GatewayEvents.{announce, tells}
use Rattle.pg_gateway.specs.State.{SharedMachine}
use Rattle.pg_gateway.specs.Shown.{SlotValue, SlotShows, GatewayValue, GatewayShows, Steps}
use Rattle.pg_gateway.specs.Taking.{IsBroadcast}
use Rattle.pg_gateway.proofs.Places.{part_there, rising-all}
use Rattle.pg_gateway.proofs.Judged.{key_is}

-- the next of some places announces its PMU's configuration
abbrev announced_by : Source → Part → Announcing
announced_by config part = record { key = key_in config part; config = part }

next_announced : (config : Source) (places : List ℕ) (k : ℕ) (part : Part) → k < length places → slice_get config.parts (get_or places k 0) ≡ Some part
    → announced_at config (drop k places) ≡ announced_by config part ∷ announced_at config (drop (k + 1) places)
next_announced config places k part lt at =
    ap (announced_at config) (drop_more places k 0 lt)
    ∙ ap (λ o. announced_part config o ++ announced_at config (drop (k + 1) places)) at

cons_parts : (a b : Part) (xs ys : List Part) → a ∷ xs ≡ b ∷ ys → (a ≡ b) × (xs ≡ ys)
cons_parts a b xs ys e = (cc, cc)

-- One more of those PMUs announced the copy that lies first; the others still will.
module _ {X : Type 0} (f : X → Part) (config : Source) (places : List ℕ) (k : ℕ) where
  pub copy_there : (items : List X) → AreRising 0 (length config.parts) places → k < length places
      → map f items ≡ map config_of (announced_at config (drop k places)) → None ≡ slice_get items 0 → ⊥
  copy_there (x ∷ items) rising lt ready none = no_x none
    where
      no_x : None ≡ Some x → ⊥
      no_x e = cc
  copy_there [] rising lt ready none = no_part (ready ∙ ap (map config_of) (next_announced config places k there.0 lt there.1))
    where
      there : (part : Part) × (slice_get config.parts (get_or places k 0) ≡ Some part)
      there = part_there config.parts (get_or places k 0) (rising-all 0 (length config.parts) places rising k 0 lt)

      no_part : [] ≡ there.0 ∷ map config_of (announced_at config (drop (k + 1) places)) → ⊥
      no_part e = cc

  pub announce_step : (items : List X) (x : X) (old new whole : Pmus) (key : PmuKey) → AreRising 0 (length config.parts) places → k < length places
      → Some x ≡ slice_get items 0 → map f items ≡ map config_of (announced_at config (drop k places))
      → key.source ≡ config.source → IfSome (slice_get config.parts (get_or places k 0)) (λ part. key.pmu ≡ block_id part.block)
      → new ≡ changed (announcing (f x)) key old
      → all_announced old (announced_at config (drop k places)) ≡ whole
      → (map f (drop 1 items) ≡ map config_of (announced_at config (drop (k + 1) places))) × (all_announced new (announced_at config (drop (k + 1) places)) ≡ whole)
  announce_step [] x old new whole key rising lt first ready source pmu is rest = absurd (no_x first)
    where
      no_x : Some x ≡ None → ⊥
      no_x e = cc
  announce_step (y ∷ items) x old new whole key rising lt first ready source pmu is rest =
      (parts.1, ap (λ pmus. all_announced pmus (announced_at config (drop (k + 1) places))) made ∙ sym (ap (all_announced old) next) ∙ rest)
    where
      there : (part : Part) × (slice_get config.parts (get_or places k 0) ≡ Some part)
      there = part_there config.parts (get_or places k 0) (rising-all 0 (length config.parts) places rising k 0 lt)

      next : announced_at config (drop k places) ≡ announced_by config there.0 ∷ announced_at config (drop (k + 1) places)
      next = next_announced config places k there.0 lt there.1

      parts : (f y ≡ there.0) × (map f items ≡ map config_of (announced_at config (drop (k + 1) places)))
      parts = cons_parts (f y) there.0 (map f items) (map config_of (announced_at config (drop (k + 1) places))) (ready ∙ ap (map config_of) next)

      same_x : Some x ≡ Some y → x ≡ y
      same_x e = cc

      made : new ≡ changed (announcing there.0) (key_in config there.0) old
      made = is ∙ ap (λ part. changed (announcing part) key old) (ap f (same_x first) ∙ parts.0)
          ∙ ap (λ key. changed (announcing there.0) key old) (key_is config (get_or places k 0) there.0 key there.1 source pmu)

-- What the gateway is after an announcement.
pub announced_refused : (config : Source) (S : SharedMachine) (old : GatewayValue) → GatewayShows old S → registered_of S.pmus config ≡ []
    → Steps S (announce config) (tells (refused NoSuchPmu)) (record { pmus = old.pmus; subs = old.subs; last_tick = old.last_tick })
announced_refused config S old shown none =
    record {
      may = rw none refl;
      shows = rw none (record { pmus = shown.pmus; subs = shown.subs; last_tick = shown.last_tick });
    }

pub announced_memory : (config : Source) (S : SharedMachine) (old : GatewayValue) (pmus : Pmus) (entries : List (ℕ × SlotValue)) (a : Announcing) (list : List Announcing) → GatewayShows old S → registered_of S.pmus config ≡ a ∷ list
    → Related SlotShows entries S.subs → pmus ≡ memory_counted S.pmus (map (λ a. a.key) (registered_of S.pmus config))
    → Steps S (announce config) (tells (refused NoMemory)) (record { pmus = pmus; subs = entries; last_tick = old.last_tick })
announced_memory config S old pmus entries a list shown some related counted =
    let counts = rw some at counted in
    record {
      may = rw some (inr (refl, refl));
      shows = rw some (record { pmus = counts; subs = related; last_tick = shown.last_tick });
    }

pub announced_goes : (config : Source) (S : SharedMachine) (old : GatewayValue) (pmus : Pmus) (entries : List (ℕ × SlotValue)) (made kept : ℕ) (a : Announcing) (list : List Announcing) → GatewayShows old S → registered_of S.pmus config ≡ a ∷ list
    → IsBroadcast (announces (registered_of S.pmus config)) made kept S.subs entries → kept ≤ made → pmus ≡ all_announced S.pmus (registered_of S.pmus config)
    → Steps S (announce config) (tells (done made kept)) (record { pmus = pmus; subs = entries; last_tick = old.last_tick })
announced_goes config S old pmus entries made kept a list shown some fans few announced =
    let fan = rw some at fans in
    let puts = rw some at announced in
    let within : kept ≤ total (announces (a ∷ list)) S.subs = subst (λ n. kept ≤ n) fan.count few in
    record {
      may = rw some (inl (kept, within, ap (λ n. tells (done n kept)) fan.count));
      shows = rw some (record { pmus = puts; subs = fan.shows; last_tick = shown.last_tick });
    }

-- what is registered by what is kept is so by what the state says
pub registered_shown : (config : Source) (S : SharedMachine) (v : GatewayValue) (ps : List ℕ) → GatewayShows v S → announced_at config ps ≡ registered_of v.pmus config → announced_at config ps ≡ registered_of S.pmus config
registered_shown config S v ps shown is = is ∙ ap (λ pmus. registered_of pmus config) shown.pmus

pub none_announced : (config : Source) (ps : List ℕ) → length ps ≡ 0 → announced_at config ps ≡ []
none_announced config [] none = refl
none_announced config (p ∷ ps) none = absurd (omega arith)

-- want of memory is counted at the first of some places
pub first_counted : (config : Source) (places : List ℕ) (p : ℕ) (key : PmuKey) (pmus : Pmus) → AreRising 0 (length config.parts) places → slice_get places 0 ≡ Some p
    → key.source ≡ config.source → IfSome (slice_get config.parts p) (λ part. key.pmu ≡ block_id part.block)
    → changed (refusing NoMemory) key pmus ≡ memory_counted pmus (map (λ a. a.key) (announced_at config places))
first_counted config [] p key pmus rising first source pmu = absurd (no_p first)
  where
    no_p : None ≡ Some p → ⊥
    no_p e = cc
first_counted config (q ∷ places) p key pmus rising first source pmu =
    ap (λ key. changed (refusing NoMemory) key pmus) (key_is config p there.0 key at source pmu)
    ∙ sym (ap (λ o. memory_counted pmus (map (λ (a : Announcing). a.key) (announced_part config o ++ announced_at config places))) there.1)
  where
    there : (part : Part) × (slice_get config.parts q ≡ Some part)
    there = part_there config.parts q rising.1

    same : Some q ≡ Some p → q ≡ p
    same e = cc

    at : slice_get config.parts p ≡ Some there.0
    at = ap (slice_get config.parts) (sym (same first)) ∙ there.1
