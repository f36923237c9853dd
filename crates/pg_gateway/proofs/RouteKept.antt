-- What is kept of the routes is what would be computed afresh, and the marks of a frame are all whom it concerns.
use Rattle.std.proofs.Common.{◌≡◌, ℕ, zero, suc, ◌<◌, ◌≤◌, ◌&&◌, Bool, true, false, not, if◌then◌else◌, is_some, List, [], ◌∷◌, length, map, filter, get_or, All, Option, Some, None, refl, sym, ap, subst, ◌∙◌, arith}
use Rattle.std.specs.Prelude.{slice_get, nat_eq}
use Rattle.std.specs.Int.{bit_at}
use Rattle.std.specs.Map.{keys_of, values_of}
use Rattle.std.proofs.lemmas.Nat.Bits.{bit_at-zero}
use Rattle.std.proofs.lemmas.List.Elements.{All-head, All-tail}
use Rattle.std.proofs.lemmas.List.Quantifiers.{position-Some}
use Rattle.pg_wire.specs.declared.refusal.Refusal.{Refusal}
use Rattle.pg_wire.specs.declared.ids.PmuKey.{PmuKey}
use Rattle.pg_wire.specs.Keys.{key_eq}
use Rattle.pg_entitle.specs.Grants.{has_key}
use Rattle.pg_entitle.proofs.Orders.{same_of_eq}
use Rattle.pg_data.specs.Measurements.{Measurement}
use Rattle.pg_registry.specs.Registered as registry
use Rattle.pg_registry.specs.Registered.{Pmus, announcing, refusing, changed}
use Rattle.pg_registry.proofs.Lists.{keys-changed}
use Rattle.pg_wire.specs.declared.refusal.Refusal.TheVariants.{NoMemory}
use Rattle.pg_audit.specs.declared.audit.What.{What}
use Rattle.pg_session.specs.Events as event
use Rattle.pg_session.specs.Events.{SubscriberEvent, Announcing, Sample, samples_at}
use Rattle.pg_session.specs.Private as private
use Rattle.pg_session.specs.Private.{ReplyValue, done, refused, handed}
use Rattle.pg_session.specs.Shown.{Model}
use Rattle.pg_session.specs.ByAll.{by_arrivals, by_numbers}
use Rattle.pg_gateway.specs.declared.event.Event.{Event}
use Rattle.pg_gateway.specs.declared.event.Event.TheVariants as kind
use Rattle.pg_gateway.specs.GatewayEvents.{gateway_event, GatewayEvent, add_pmu, drop_pmu, add_sub, drop_sub, grant, asks, announce, measure, tick, Answer, tells, sub_counts, pmu_counts, entry, stands, those_waiting, inquires}
use Rattle.pg_gateway.specs.Judging.{samples_in, sample_refusal, is_taken, judged, taken_of, registered_of, block_counted, blocks_counted, memory_counted, all_announced}
use Rattle.pg_gateway.specs.Related.{Related}
use Rattle.pg_gateway.specs.Sharing.{SubscriberSlot, SubscriberSlots, Broadcast, announces, measures, ticks, some_announced, some_measured, after_share, shared_to, broadcast}
use Rattle.pg_gateway.specs.State.{SharedMachine, next, refusal, at_slot, moved, with_note, code_of, names, is_refusal, wants_memory, kept_of, slots_noted, slots_after, announce_refusal, unless, to_all, taken_in, judged_in}
use Rattle.pg_gateway.specs.Shown.{SlotValue, SlotShows, GatewayValue, Goes}
use Rattle.pg_gateway.specs.Consistent.{IsReached}
use Rattle.pg_gateway.specs.Placing.{ArePlaced}
use Rattle.pg_gateway.specs.Taking.{measured}
use Rattle.pg_gateway.specs.Routes.{WhereBit, HasBits, IsPassed, IsMask, AreMasks, KeepsOwn, KeepsRoutes}
use Rattle.pg_gateway.proofs.RouteLaws.{SameGrants, masks_kept, unset_none, bit_past}

cons_same : {X : Type 0} (a b : X) (more others : List X) → a ≡ b → more ≡ others → a ∷ more ≡ b ∷ others
cons_same a b more others first rest = cc

head_same : {X : Type 0} (a b : X) (more others : List X) → a ∷ more ≡ b ∷ others → a ≡ b
head_same a b more others e = cc

tail_same : {X : Type 0} (a b : X) (more others : List X) → a ∷ more ≡ b ∷ others → more ≡ others
tail_same a b more others e = cc

nil_cons : {X : Type 0} (b : X) (others : List X) → [] ≡ b ∷ others → ⊥
nil_cons b others e = cc

cons_nil : {X : Type 0} (a : X) (more : List X) → a ∷ more ≡ [] → ⊥
cons_nil a more e = cc

-- the grants of all subscribers, in their order
abbrev grants_in : List (ℕ × SlotValue) → List (List PmuKey)
grants_in [] = []
grants_in (x ∷ xs) = x.1.subscriber.own.grants ∷ grants_in xs

abbrev grants_of : SubscriberSlots → List (List PmuKey)
grants_of [] = []
grants_of (s ∷ ss) = s.1.own.grants ∷ grants_of ss

shown_grants : (xs : List (ℕ × SlotValue)) (ss : SubscriberSlots) → Related SlotShows xs ss → grants_in xs ≡ grants_of ss
shown_grants [] [] h = refl
shown_grants [] (s ∷ ss) h = absurd h
shown_grants (x ∷ xs) [] h = absurd h
shown_grants (x ∷ xs) (s ∷ ss) h = cons_same _ _ _ _ h.1.subscriber.grants (shown_grants xs ss h.2)

same_grants : (xs ys : List (ℕ × SlotValue)) → grants_in xs ≡ grants_in ys → SameGrants xs ys
same_grants [] [] e = tt
same_grants [] (y ∷ ys) e = nil_cons _ _ e
same_grants (x ∷ xs) [] e = cons_nil _ _ e
same_grants (x ∷ xs) (y ∷ ys) e = (head_same _ _ _ _ e, same_grants xs ys (tail_same _ _ _ _ e))

-- Events for all that leave the grants.
fanned_grants : (o : Broadcast) → ((s : SubscriberSlot) (k : ℕ) → (shared_to o s k).own.grants ≡ s.own.grants) → (ss : SubscriberSlots) (k : ℕ) → grants_of (broadcast o ss k) ≡ grants_of ss
fanned_grants o each [] k = refl
fanned_grants o each (s ∷ ss) k = cons_same _ _ _ _ (each s.1 _) (fanned_grants o each ss _)

announced_grants : (list : List Announcing) (s : SubscriberSlot) (k : ℕ) → (shared_to (announces list) s k).own.grants ≡ s.own.grants
announced_grants list s k = by (filter (λ a. has_key s.own.grants a.key) list)
  where
    by : (l : List Announcing) → (after_share (some_announced l) [] s k).own.grants ≡ s.own.grants
    by [] = refl
    by (a ∷ l) = refl

measured_grants : (soc quality frac : ℕ) (samples : List Sample) (s : SubscriberSlot) (k : ℕ) → (shared_to (measures soc quality frac samples) s k).own.grants ≡ s.own.grants
measured_grants soc quality frac samples s k = by (filter (λ t. has_key s.own.grants t.key) samples)
  where
    by : (l : List Sample) → (after_share (some_measured soc quality frac l) [] s k).own.grants ≡ s.own.grants
    by [] = refl
    by (t ∷ l) = refl

-- Events for one subscriber that leave its grants.
at_grants : (u : ℕ) (f : SubscriberSlot → SubscriberSlot) → ((s : SubscriberSlot) → (f s).own.grants ≡ s.own.grants) → (ss : SubscriberSlots) → grants_of (at_slot u f ss) ≡ grants_of ss
at_grants u f each [] = refl
at_grants u f each (s ∷ ss) = by (nat_eq u s.0) (at_grants u f each ss)
  where
    by : (b : Bool) → grants_of (at_slot u f ss) ≡ grants_of ss → grants_of (if b then (s.0, f s.1) ∷ ss else s ∷ at_slot u f ss) ≡ grants_of (s ∷ ss)
    by true rest = cons_same _ _ _ _ (each s.1) refl
    by false rest = cons_same _ _ _ _ refl rest

noted_grants : (named : Option (ℕ × What)) (t : ReplyValue) (ss : SubscriberSlots) → grants_of (slots_noted named t ss) ≡ grants_of ss
noted_grants None t ss = refl
noted_grants (Some named) t ss = at_grants named.0 (with_note (named.1, code_of t)) (λ s. refl) ss

own_grants : (p : Model) (x : SubscriberEvent) (t : ReplyValue) → KeepsOwn x → (private.next by_arrivals by_numbers p x t).grants ≡ p.grants
own_grants p (event.grant key config) t keeps = absurd keeps
own_grants p (event.announce list) t keeps = absurd keeps
own_grants p (event.measure soc quality frac samples) t keeps = absurd keeps
own_grants p (event.tick soc) t keeps = absurd keeps
own_grants p (event.revoke key) t keeps = absurd keeps
own_grants p (event.define definition) (done made kept) keeps = refl
own_grants p (event.define definition) (refused r) keeps = refl
own_grants p (event.define definition) (handed bytes begun gap) keeps = refl
own_grants p (event.remove number) (done made kept) keeps = refl
own_grants p (event.remove number) (refused r) keeps = refl
own_grants p (event.remove number) (handed bytes begun gap) keeps = refl
own_grants p event.connect (done made kept) keeps = refl
own_grants p event.connect (refused r) keeps = refl
own_grants p event.connect (handed bytes begun gap) keeps = refl
own_grants p event.hangup (done made kept) keeps = refl
own_grants p event.hangup (refused r) keeps = refl
own_grants p event.hangup (handed bytes begun gap) keeps = refl
own_grants p (event.command number word) (done made kept) keeps = refl
own_grants p (event.command number word) (refused r) keeps = by p.connected
  where
    by : (b : Bool) → (if b then record p { output = private.with_refusal p.output r } else p).grants ≡ p.grants
    by true = refl
    by false = refl
own_grants p (event.command number word) (handed bytes begun gap) keeps = refl
own_grants p (event.drain n) (done made kept) keeps = refl
own_grants p (event.drain n) (refused r) keeps = refl
own_grants p (event.drain n) (handed bytes begun gap) keeps = refl

module _ (S : SharedMachine) (t : ReplyValue) where
  announced_slots : (list : List Announcing) → grants_of (slots_after (unless (announce_refusal list) (to_all (announces list))) t S.subs) ≡ grants_of S.subs
  announced_slots [] = refl
  announced_slots (a ∷ list) = one (is_refusal t)
    where
      one : (r : Bool) → grants_of (if r then S.subs else broadcast (announces (a ∷ list)) S.subs (kept_of t)) ≡ grants_of S.subs
      one true = refl
      one false = fanned_grants (announces (a ∷ list)) (announced_grants (a ∷ list)) S.subs (kept_of t)

  measured_slots : (m : Measurement) (r : Option Refusal) → grants_of (slots_after (unless r (to_all (measures m.soc m.quality m.frac (taken_in S m)))) t S.subs) ≡ grants_of S.subs
  measured_slots m (Some r) = refl
  measured_slots m None = one (is_refusal t)
    where
      one : (r : Bool) → grants_of (if r then S.subs else broadcast (measures m.soc m.quality m.frac (taken_in S m)) S.subs (kept_of t)) ≡ grants_of S.subs
      one true = refl
      one false = fanned_grants (measures m.soc m.quality m.frac (taken_in S m)) (measured_grants m.soc m.quality m.frac (taken_in S m)) S.subs (kept_of t)

  ticked_slots : (soc : ℕ) (r : Bool) → grants_of (if r then S.subs else broadcast (ticks soc) S.subs (kept_of t)) ≡ grants_of S.subs
  ticked_slots soc true = refl
  ticked_slots soc false = fanned_grants (ticks soc) (λ s k. refl) S.subs (kept_of t)

  grants_stay : (e : GatewayEvent) → KeepsRoutes e → grants_of (next S e (tells t)).subs ≡ grants_of S.subs
  grants_stay (add_pmu key) keeps = absurd keeps
  grants_stay (drop_pmu key) keeps = absurd keeps
  grants_stay (add_sub u size bytes) keeps = absurd keeps
  grants_stay (drop_sub u) keeps = absurd keeps
  grants_stay (grant u key) keeps = absurd keeps
  grants_stay (asks u x) keeps = noted_grants (names (asks u x)) t (at_slot u (moved x t) S.subs) ∙ at_grants u (moved x t) (λ s. own_grants s.own x t keeps) S.subs
  grants_stay (announce config) keeps = announced_slots (registered_of S.pmus config)
  grants_stay (measure m) keeps = measured_slots m (refusal S (measure m))
  grants_stay (tick soc) keeps = ticked_slots soc (is_refusal t)
  grants_stay (inquires q) keeps = refl

-- The PMUs stay where they are.
keys_announced : (list : List Announcing) (pmus : Pmus) → keys_of (all_announced pmus list) ≡ keys_of pmus
keys_announced [] pmus = refl
keys_announced (a ∷ list) pmus = keys_announced list (changed (announcing a.config) a.key pmus) ∙ keys-changed (announcing a.config) a.key pmus

keys_counted : (bs : List (PmuKey × Option Refusal)) (pmus : Pmus) → keys_of (blocks_counted pmus bs) ≡ keys_of pmus
keys_counted [] pmus = refl
keys_counted (b ∷ others) pmus = keys_counted others (changed (block_counted b.1) b.0 pmus) ∙ keys-changed (block_counted b.1) b.0 pmus

keys_memory : (keys : List PmuKey) (pmus : Pmus) → keys_of (memory_counted pmus keys) ≡ keys_of pmus
keys_memory [] pmus = refl
keys_memory (key ∷ keys) pmus = keys-changed (refusing NoMemory) key pmus

module _ (S : SharedMachine) (t : ReplyValue) where
  keys_stay : (e : GatewayEvent) → KeepsRoutes e → keys_of (next S e (tells t)).pmus ≡ keys_of S.pmus
  keys_stay (add_pmu key) keeps = absurd keeps
  keys_stay (drop_pmu key) keeps = absurd keeps
  keys_stay (add_sub u size bytes) keeps = absurd keeps
  keys_stay (drop_sub u) keeps = absurd keeps
  keys_stay (grant u key) keeps = absurd keeps
  keys_stay (asks u x) keeps = refl
  keys_stay (announce config) keeps = by (is_refusal t)
    where
      by : (r : Bool) → keys_of (if r then memory_counted S.pmus (map (λ a. a.key) (registered_of S.pmus config)) else all_announced S.pmus (registered_of S.pmus config)) ≡ keys_of S.pmus
      by true = keys_memory (map (λ a. a.key) (registered_of S.pmus config)) S.pmus
      by false = keys_announced (registered_of S.pmus config) S.pmus
  keys_stay (measure m) keeps = by (wants_memory t)
    where
      by : (r : Bool) → keys_of (if r then memory_counted S.pmus (map (λ b. b.0) (judged_in S m)) else blocks_counted S.pmus (judged_in S m)) ≡ keys_of S.pmus
      by true = keys_memory (map (λ b. b.0) (judged_in S m)) S.pmus
      by false = keys_counted (judged_in S m) S.pmus
  keys_stay (tick soc) keeps = refl
  keys_stay (inquires q) keeps = refl

stays : (S : SharedMachine) (e : GatewayEvent) (a : Answer) → KeepsRoutes e → (grants_of (next S e a).subs ≡ grants_of S.subs) × (keys_of (next S e a).pmus ≡ keys_of S.pmus)
stays S e (tells t) keeps = (grants_stay S t e keeps, keys_stay S t e keeps)
stays S e (sub_counts s) keeps = (refl, refl)
stays S e (pmu_counts s) keeps = (refl, refl)
stays S e (those_waiting us) keeps = (refl, refl)
stays S e (entry found) keeps = (refl, refl)
stays S e (stands s) keeps = (refl, refl)

pub routes_stay : (old new : GatewayValue) (e : GatewayEvent) (a : Answer) → IsReached old → Goes old e a new → KeepsRoutes e → (masks : List ℕ)
    → AreMasks old.subs (keys_of old.pmus) masks → AreMasks new.subs (keys_of new.pmus) masks
routes_stay old new e a reached goes keeps masks all =
    let S = reached.state in
    let shown = reached.shows in
    let after = (goes S shown).shows in
    let stay = stays S e a keeps in
    let grants : grants_in old.subs ≡ grants_in new.subs = shown_grants old.subs S.subs shown.subs ∙ sym stay.0 ∙ sym (shown_grants new.subs (next S e a).subs after.subs) in
    let keys : keys_of old.pmus ≡ keys_of new.pmus = ap (λ (pmus : Pmus). keys_of pmus) shown.pmus ∙ sym stay.1 ∙ sym (ap (λ (pmus : Pmus). keys_of pmus) after.pmus) in
    masks_kept old.subs new.subs (same_grants old.subs new.subs grants) (keys_of new.pmus) masks (subst (λ keys. AreMasks old.subs keys masks) keys all)

-- Masks by their places.
pub masks_length : (xs : List (ℕ × SlotValue)) (keys : List PmuKey) (masks : List ℕ) → AreMasks xs keys masks → length masks ≡ length keys
masks_length xs [] [] all = refl
masks_length xs [] (n ∷ masks) all = absurd all
masks_length xs (k ∷ keys) [] all = absurd all
masks_length xs (k ∷ keys) (n ∷ masks) all = ap suc (masks_length xs keys masks all.1)

pub mask_at : (xs : List (ℕ × SlotValue)) (keys : List PmuKey) (masks : List ℕ) → AreMasks xs keys masks → (i : ℕ) (d : PmuKey) → i < length keys → IsMask xs (get_or keys i d) (get_or masks i 0)
mask_at xs [] masks all i d lt = absurd (omega (arith, lt))
mask_at xs (k ∷ keys) [] all i d lt = absurd all
mask_at xs (k ∷ keys) (n ∷ masks) all zero d lt = all.0
mask_at xs (k ∷ keys) (n ∷ masks) all (suc i) d lt = mask_at xs keys masks all.1 i d (omega (arith, lt))

mask_past : (xs : List (ℕ × SlotValue)) (keys : List PmuKey) (masks : List ℕ) → AreMasks xs keys masks → (i j : ℕ) → length xs ≤ j → bit_at (get_or masks i 0) j ≡ 0
mask_past xs [] [] all zero j past = bit_at-zero j
mask_past xs [] [] all (suc i) j past = bit_at-zero j
mask_past xs [] (n ∷ masks) all i j past = absurd all
mask_past xs (k ∷ keys) [] all i j past = absurd all
mask_past xs (k ∷ keys) (n ∷ masks) all zero j past = all.0 j ∙ bit_past k xs j past
mask_past xs (k ∷ keys) (n ∷ masks) all (suc i) j past = mask_past xs keys masks all.1 i j past

-- as many keys as PMUs
length_keys : (pmus : Pmus) → length (keys_of pmus) ≡ length pmus
length_keys [] = refl
length_keys (p ∷ pmus) = ap suc (length_keys pmus)

pub keys_within : (pmus : Pmus) (ps : List (ℕ × Option Refusal)) → All (λ p. p.0 < length pmus) ps → All (λ p. p.0 < length (keys_of pmus)) ps
keys_within pmus ps within = subst (λ n. All (λ (p : ℕ × Option Refusal). p.0 < n) ps) (sym (length_keys pmus)) within

-- No mark stands past the last subscriber.
pub marks_within : (xs : List (ℕ × SlotValue)) (keys : List PmuKey) (masks : List ℕ) (ps : List (ℕ × Option Refusal)) (granted_some : ℕ) → AreMasks xs keys masks
    → ((j : ℕ) → All (λ b. bit_at (get_or masks b.0 0) j ≡ 0) ps → bit_at granted_some j ≡ 0) → HasBits (length xs) granted_some
marks_within xs keys masks ps granted_some all none = λ j past. none j (λ i d lt. mask_past xs keys masks all (get_or ps i d).0 j past)

-- A subscriber that is not marked holds no PMU of a block that was taken.
module _ (pmus : Pmus) (last : Option ℕ) (soc : ℕ) (xs : List (ℕ × SlotValue)) (masks : List ℕ) (all : AreMasks xs (keys_of pmus) masks)
    (j : ℕ) (v : SlotValue) (at : slice_get (values_of xs) j ≡ Some v) where
  not_held : (key : PmuKey) (place : ℕ) → registry.place_in pmus key ≡ Some place → bit_at (get_or masks place 0) j ≡ 0 → has_key v.subscriber.own.grants key ≡ false
  not_held key place found unset =
      let there = position-Some (key_eq key) (keys_of pmus) place key found in
      let same : key ≡ get_or (keys_of pmus) place key = same_of_eq key (get_or (keys_of pmus) place key) there.1 in
      unset_none xs key (get_or masks place 0) j v (subst (λ k. IsMask xs k (get_or masks place 0)) (sym same) (mask_at xs (keys_of pmus) masks all place key there.0)) at unset

  none_held : (samples : List Sample) (ps : List (ℕ × Option Refusal))
      → ArePlaced pmus ps (map (λ s. (s.key, sample_refusal pmus last soc s)) (filter (λ s. registry.has_key pmus s.key) samples))
      → All (λ b. b.1 ≡ None → bit_at (get_or masks b.0 0) j ≡ 0) ps
      → filter (λ s. has_key v.subscriber.own.grants s.key) (filter (is_taken pmus last soc) samples) ≡ []
  none_held [] ps placed unset = refl
  none_held (s ∷ samples) ps placed unset = by (registry.has_key pmus s.key) (none_held samples) placed
    where
      one : (o : Option Refusal) (ps : List (ℕ × Option Refusal))
          → ((ps : List (ℕ × Option Refusal)) → ArePlaced pmus ps (map (λ s. (s.key, sample_refusal pmus last soc s)) (filter (λ s. registry.has_key pmus s.key) samples))
          → All (λ b. b.1 ≡ None → bit_at (get_or masks b.0 0) j ≡ 0) ps → filter (λ s. has_key v.subscriber.own.grants s.key) (filter (is_taken pmus last soc) samples) ≡ [])
          → ArePlaced pmus ps ((s.key, o) ∷ map (λ s. (s.key, sample_refusal pmus last soc s)) (filter (λ s. registry.has_key pmus s.key) samples))
          → All (λ b. b.1 ≡ None → bit_at (get_or masks b.0 0) j ≡ 0) ps
          → filter (λ s. has_key v.subscriber.own.grants s.key) (if not (is_some o) then s ∷ filter (is_taken pmus last soc) samples else filter (is_taken pmus last soc) samples) ≡ []
      one o [] rest placed unset = absurd placed
      one None (p ∷ ps) rest placed unset =
          let none : has_key v.subscriber.own.grants s.key ≡ false = not_held s.key p.0 placed.0 (All-head (λ b. b.1 ≡ None → bit_at (get_or masks b.0 0) j ≡ 0) p ps unset placed.2) in
          rw none (rest ps placed.3 (All-tail (λ b. b.1 ≡ None → bit_at (get_or masks b.0 0) j ≡ 0) p ps unset))
      one (Some r) (p ∷ ps) rest placed unset = rest ps placed.3 (All-tail (λ b. b.1 ≡ None → bit_at (get_or masks b.0 0) j ≡ 0) p ps unset)

      by : (b : Bool)
          → ((ps : List (ℕ × Option Refusal)) → ArePlaced pmus ps (map (λ s. (s.key, sample_refusal pmus last soc s)) (filter (λ s. registry.has_key pmus s.key) samples))
          → All (λ b. b.1 ≡ None → bit_at (get_or masks b.0 0) j ≡ 0) ps → filter (λ s. has_key v.subscriber.own.grants s.key) (filter (is_taken pmus last soc) samples) ≡ [])
          → ArePlaced pmus ps (map (λ s. (s.key, sample_refusal pmus last soc s)) (if b then s ∷ filter (λ s. registry.has_key pmus s.key) samples else filter (λ s. registry.has_key pmus s.key) samples))
          → filter (λ s. has_key v.subscriber.own.grants s.key) (if b && not (is_some (sample_refusal pmus last soc s)) then s ∷ filter (is_taken pmus last soc) samples else filter (is_taken pmus last soc) samples) ≡ []
      by true rest placed = one (sample_refusal pmus last soc s) ps rest placed unset
      by false rest placed = rest ps placed unset

pub measured_passes : (m : Measurement) (pmus : Pmus) (last : Option ℕ) (xs : List (ℕ × SlotValue)) (masks places : List ℕ) (ps : List (ℕ × Option Refusal)) (granted_some : ℕ)
    → AreMasks xs (keys_of pmus) masks → samples_at m places ≡ taken_of pmus last m → ArePlaced pmus ps (judged pmus last m)
    → ((j : ℕ) → bit_at granted_some j ≡ 0 → All (λ b. b.1 ≡ None → bit_at (get_or masks b.0 0) j ≡ 0) ps)
    → WhereBit 0 granted_some (IsPassed (measured m places)) xs
measured_passes m pmus last xs masks places ps granted_some all taken placed covers = λ j v at unset.
    ap (some_measured m.soc m.quality m.frac)
    (ap (filter (λ s. has_key v.subscriber.own.grants s.key)) taken ∙ none_held pmus last m.soc xs masks all j v at (samples_in m) ps placed (covers j unset))

-- an event of the other kinds keeps the routes
pub else_keeps : (e : Event) → ((key : _) → e ≡ kind.AddPmu key → ⊥) → ((key : _) → e ≡ kind.DropPmu key → ⊥) → ((u : _) → (size : _) → (bytes : _) → e ≡ kind.AddSub u size bytes → ⊥) → ((u : _) → e ≡ kind.DropSub u → ⊥) → ((u : _) → (key : _) → e ≡ kind.Grant u key → ⊥) → ((u : _) → (key : _) → e ≡ kind.Revoke u key → ⊥) → KeepsRoutes (gateway_event e)
else_keeps (kind.AddPmu key) nAddPmu nDropPmu nAddSub nDropSub nGrant nRevoke = absurd (nAddPmu key refl)
else_keeps (kind.DropPmu key) nAddPmu nDropPmu nAddSub nDropSub nGrant nRevoke = absurd (nDropPmu key refl)
else_keeps (kind.AddSub u size bytes) nAddPmu nDropPmu nAddSub nDropSub nGrant nRevoke = absurd (nAddSub u size bytes refl)
else_keeps (kind.DropSub u) nAddPmu nDropPmu nAddSub nDropSub nGrant nRevoke = absurd (nDropSub u refl)
else_keeps (kind.Grant u key) nAddPmu nDropPmu nAddSub nDropSub nGrant nRevoke = absurd (nGrant u key refl)
else_keeps (kind.Revoke u key) nAddPmu nDropPmu nAddSub nDropSub nGrant nRevoke = absurd (nRevoke u key refl)
else_keeps (kind.Define u definition) nAddPmu nDropPmu nAddSub nDropSub nGrant nRevoke = tt
else_keeps (kind.Remove u number) nAddPmu nDropPmu nAddSub nDropSub nGrant nRevoke = tt
else_keeps (kind.Announce config) nAddPmu nDropPmu nAddSub nDropSub nGrant nRevoke = tt
else_keeps (kind.Measure frame) nAddPmu nDropPmu nAddSub nDropSub nGrant nRevoke = tt
else_keeps (kind.Tick soc) nAddPmu nDropPmu nAddSub nDropSub nGrant nRevoke = tt
else_keeps (kind.Connect u) nAddPmu nDropPmu nAddSub nDropSub nGrant nRevoke = tt
else_keeps (kind.Hangup u) nAddPmu nDropPmu nAddSub nDropSub nGrant nRevoke = tt
else_keeps (kind.Command u asked) nAddPmu nDropPmu nAddSub nDropSub nGrant nRevoke = tt
else_keeps (kind.Drain u buf) nAddPmu nDropPmu nAddSub nDropSub nGrant nRevoke = tt
else_keeps (kind.Stats u) nAddPmu nDropPmu nAddSub nDropSub nGrant nRevoke = tt
else_keeps (kind.PmuStats key) nAddPmu nDropPmu nAddSub nDropSub nGrant nRevoke = tt
else_keeps (kind.WhoWaits subs) nAddPmu nDropPmu nAddSub nDropSub nGrant nRevoke = tt
else_keeps (kind.Audit u index) nAddPmu nDropPmu nAddSub nDropSub nGrant nRevoke = tt
else_keeps (kind.Standing u place) nAddPmu nDropPmu nAddSub nDropSub nGrant nRevoke = tt
