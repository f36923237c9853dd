-- After inputs a source has a line just where it has a key, and a subscriber a session just where it is connected.
use Rattle.std.proofs.Common.{◌≡◌, ℕ, ◌&&◌, ◌||◌, nat_eq, nat_le, is_some, cond, Bool, true, false, not, if◌then◌else◌, List, [], ◌∷◌, ◌++◌, length, map, filter, Option, Some, None, option_map, refl, sym, ap, ap₂, ◌∙◌, subst, arith}
use Rattle.std.specs.Map.{lookup, set_value, remove_entry, keys_of}
use Rattle.std.specs.List.{list_any}
use Rattle.std.specs.Option.{option_map_or}
use Rattle.std.proofs.lemmas.Bool.{eqb-true}
use Rattle.std.proofs.lemmas.Bool.Decides.{nat_tests}
use Rattle.std.proofs.lemmas.List.{map-append}
use Rattle.indexmap.specs.IndexMap.{insert_entry}
use Rattle.pg_wire.specs.declared.refusal.Refusal.{Refusal}
use Rattle.pg_wire.specs.declared.refusal.Refusal.TheVariants.{NoMemory, NoSuchSub, SubExists, SubsFull, Busy, NotConnected}
use Rattle.pg_wire.specs.declared.ids.PmuKey.{PmuKey}
use Rattle.pg_wire.specs.Keys.{key_eq}
use Rattle.pg_wire.specs.Frame.{break_of}
use Rattle.pg_wire.specs.Split.{frames_in, rest_in}
use Rattle.pg_wire.proofs.Splitting.{frames_in-append}
use Rattle.pg_entitle.specs.Grants.{has_key, granted}
use Rattle.pg_registry.specs.Registered as registered
use Rattle.pg_registry.specs.Registered.{Pmu, Pmus, changed, announcing, refusing, unannounced}
use Rattle.pg_registry.proofs.Lists.{keys-changed}
use Rattle.pg_ingest.specs.Items as link
use Rattle.pg_session.specs.Events as session
use Rattle.pg_session.specs.Events.{SubscriberEvent, Announcing, Sample}
use Rattle.pg_session.specs.Private as private
use Rattle.pg_session.specs.Private.{ReplyValue, done, refuse}
use Rattle.pg_session.specs.Shown.{Model}
use Rattle.pg_session.specs.ByAll.{by_arrivals, by_numbers}
use Rattle.pg_session.specs.Commands.{Item, commands, ignores, item_of, items_of, break_in}
use Rattle.pg_gateway.specs.GatewayEvents.{GatewayEvent, add_pmu, drop_pmu, add_sub, drop_sub, grant, asks, announce, measure, tick, Answer, tells, sub_counts, pmu_counts, entry, stands, those_waiting, inquires}
use Rattle.pg_gateway.specs.Judging.{registered_of, block_counted, blocks_counted, memory_counted, all_announced}
use Rattle.pg_gateway.specs.Sharing.{SubscriberSlot, Broadcast, revokes, announces, measures, ticks, some_announced, some_measured, share}
use Rattle.pg_gateway.specs.State.{SharedMachine, slot_of, own_of, refusal, Target, to_all, to_one, adds, drops, to_none, unless, target, reached_answer, frames_reached, granting, judged_in, is_refusal, wants_memory, pmus_after, next}
use Rattle.pg_gateway.specs.Histories.{state_after}
use Rattle.pg_gateway.specs.Views.{takes, unless_refused, full_told, private_run, as_seen, share_seen, part_of, full_by, full_answer, shared_step}
use Rattle.pg_gateway.proofs.SlotLaws.{Alone, SameNumbers, Alone-same, Alone-removed, same_itself, lookup-removed, owned}
use Rattle.pg_gateway.proofs.ViewLaws.{full_own, own_full, own-step, Alone-next}
use Rattle.pg_serve.specs.Inputs.{InputValue, link_up, pmu_bytes, sub_bytes, names}
use Rattle.pg_serve.specs.Actions.{Action, posts, ignores_frame, closes, refuses, pairs_of, item_action, hang_up, session_grows, told_action, link_action, close}
use Rattle.pg_serve.specs.WorldStates.{SourceLinkPast, WorldState, opening, is_done, is_done_so, has_source, new_source_link, lines_by, put_line, put_fed, fed_more, all_given, line_after, after_turn, after_turns, heard_action, up_action}
use Rattle.pg_serve.proofs.Lines.{no_rest}
use Rattle.pg_serve.proofs.Taking.{grows}
use Rattle.pg_serve.specs.Full.{full_effects, after_action, told_more, told_actions, full_turn, full_turns, world_state_of}

abbrev pub connected_in : Option Model → Bool
connected_in o = option_map_or (λ p. p.connected) o false

-- ---- keys

keys_counted : (pmus : Pmus) (bs : List (PmuKey × Option Refusal)) → keys_of (blocks_counted pmus bs) ≡ keys_of pmus
keys_counted pmus [] = refl
keys_counted pmus (b ∷ bs) = keys_counted (changed (block_counted b.1) b.0 pmus) bs ∙ keys-changed (block_counted b.1) b.0 pmus

keys_memory : (pmus : Pmus) (keys : List PmuKey) → keys_of (memory_counted pmus keys) ≡ keys_of pmus
keys_memory pmus [] = refl
keys_memory pmus (key ∷ keys) = keys-changed (refusing NoMemory) key pmus

keys_announced : (pmus : Pmus) (list : List Announcing) → keys_of (all_announced pmus list) ≡ keys_of pmus
keys_announced pmus [] = refl
keys_announced pmus (a ∷ list) =
    keys_announced (changed (announcing a.config) a.key pmus) list ∙ keys-changed (announcing a.config) a.key pmus

-- an event that registers or drops no PMU
abbrev KeepsKeys : GatewayEvent → Type 0
KeepsKeys (add_pmu key) = ⊥
KeepsKeys (drop_pmu key) = ⊥
KeepsKeys (add_sub u size bytes) = Unit {0}
KeepsKeys (drop_sub u) = Unit {0}
KeepsKeys (grant u key) = Unit {0}
KeepsKeys (asks u x) = Unit {0}
KeepsKeys (announce config) = Unit {0}
KeepsKeys (measure m) = Unit {0}
KeepsKeys (tick soc) = Unit {0}
KeepsKeys (inquires q) = Unit {0}

keys_after : (S : SharedMachine) (e : GatewayEvent) (t : ReplyValue) → KeepsKeys e → keys_of (pmus_after S e t) ≡ keys_of S.pmus
keys_after S (add_pmu key) t keeps = absurd keeps
keys_after S (drop_pmu key) t keeps = absurd keeps
keys_after S (add_sub u size bytes) t keeps = refl
keys_after S (drop_sub u) t keeps = refl
keys_after S (grant u key) t keeps = refl
keys_after S (asks u x) t keeps = refl
keys_after S (announce config) t keeps = by (is_refusal t)
  where
    list : List Announcing
    list = registered_of S.pmus config

    by : (b : Bool) → keys_of (if b then memory_counted S.pmus (map (λ a. a.key) list) else all_announced S.pmus list) ≡ keys_of S.pmus
    by true = keys_memory S.pmus (map (λ a. a.key) list)
    by false = keys_announced S.pmus list
keys_after S (measure m) t keeps = by (wants_memory t)
  where
    blocks : List (PmuKey × Option Refusal)
    blocks = judged_in S m

    by : (b : Bool) → keys_of (if b then memory_counted S.pmus (map (λ x. x.0) blocks) else blocks_counted S.pmus blocks) ≡ keys_of S.pmus
    by true = keys_memory S.pmus (map (λ x. x.0) blocks)
    by false = keys_counted S.pmus blocks
keys_after S (tick soc) t keeps = refl
keys_after S (inquires q) t keeps = refl

pub sources_kept : (S : SharedMachine) (e : GatewayEvent) (a : Answer) (s : ℕ) → KeepsKeys e → has_source (next S e a) s ≡ has_source S s
sources_kept S e (tells t) s keeps = ap (list_source s) (keys_after S e t keeps)
  where
    list_source : ℕ → List PmuKey → Bool
    list_source s keys = list_any (λ (key : PmuKey). nat_eq key.source s) keys
sources_kept S e (sub_counts x) s keeps = refl
sources_kept S e (pmu_counts x) s keeps = refl
sources_kept S e (those_waiting us) s keeps = refl
sources_kept S e (entry x) s keeps = refl
sources_kept S e (stands x) s keeps = refl

sources-push : (pmus : Pmus) (key : PmuKey) (pmu : Pmu) (s : ℕ) → registered.has_source (pmus ++ (key, pmu) ∷ []) s ≡ (registered.has_source pmus s || nat_eq key.source s)
sources-push [] key pmu s = by (nat_eq key.source s)
  where
    by : (b : Bool) → (b || false) ≡ (false || b)
    by true = refl
    by false = refl
sources-push (p ∷ pmus) key pmu s = by (nat_eq p.0.source s) (sources-push pmus key pmu s)
  where
    by : (b : Bool) → registered.has_source (pmus ++ (key, pmu) ∷ []) s ≡ (registered.has_source pmus s || nat_eq key.source s)
        → (b || registered.has_source (pmus ++ (key, pmu) ∷ []) s) ≡ ((b || registered.has_source pmus s) || nat_eq key.source s)
    by true rest = refl
    by false rest = rest

-- a key that is dropped takes its own source at most
sources_dropped : (key : PmuKey) (pmus : Pmus) (s : ℕ) → nat_eq s key.source ≡ false → registered.has_source (remove_entry (key_eq key) pmus) s ≡ registered.has_source pmus s
sources_dropped key [] s other = refl
sources_dropped key (p ∷ pmus) s other = by (nat_eq key.source p.0.source) refl (nat_eq key.pmu p.0.pmu) (sources_dropped key pmus s other)
  where
    differs : nat_eq key.source p.0.source ≡ true → nat_eq p.0.source s ≡ false
    differs same = grind (arith, nat_tests)

    by : (b : Bool) → nat_eq key.source p.0.source ≡ b → (c : Bool) → registered.has_source (remove_entry (key_eq key) pmus) s ≡ registered.has_source pmus s
        → registered.has_source (cond (b && c) pmus (p ∷ remove_entry (key_eq key) pmus)) s ≡ (nat_eq p.0.source s || registered.has_source pmus s)
    by true is true rest = rw (differs is) refl
    by true is false rest = ap (λ b. nat_eq p.0.source s || b) rest
    by false is c rest = ap (λ b. nat_eq p.0.source s || b) rest

sources_less : (key : PmuKey) (pmus : Pmus) (s : ℕ) → registered.has_source (remove_entry (key_eq key) pmus) s ≡ true → registered.has_source pmus s ≡ true
sources_less key [] s h = h
sources_less key (p ∷ pmus) s h = by (nat_eq p.0.source s) refl (key_eq key p.0) h (sources_less key pmus s)
  where
    by : (d : Bool) → nat_eq p.0.source s ≡ d → (b : Bool) → registered.has_source (cond b pmus (p ∷ remove_entry (key_eq key) pmus)) s ≡ true
        → (registered.has_source (remove_entry (key_eq key) pmus) s ≡ true → registered.has_source pmus s ≡ true) → (d || registered.has_source pmus s) ≡ true
    by true e b h rest = refl
    by false e true h rest = h
    by false e false h rest = rest (ap (λ d. d || registered.has_source (remove_entry (key_eq key) pmus) s) (sym e) ∙ h)

-- ---- entries

none_of : {V : Type 0} (o : Option V) → is_some o ≡ false → o ≡ None
none_of None h = refl
none_of (Some v) h = absurd (cc)

or_none : (b : Bool) → b ≡ (b || false)
or_none true = refl
or_none false = refl

or_all : (b : Bool) → true ≡ (b || true)
or_all true = refl
or_all false = refl

-- after an insertion an entry is there where it was, or where it is the one inserted
insert_there : {V : Type 0} (s k : ℕ) (v : V) (xs : List (ℕ × V)) → is_some (lookup (nat_eq s) (insert_entry nat_eq xs k v)) ≡ (is_some (lookup (nat_eq s) xs) || nat_eq k s)
insert_there s k v [] = by (nat_eq s k) refl (nat_eq k s) refl
  where
    by : (b : Bool) → nat_eq s k ≡ b → (c : Bool) → nat_eq k s ≡ c → is_some (cond b (Some v) None) ≡ (false || c)
    by true sk true ks = refl
    by false sk false ks = refl
    by true sk false ks = absurd (grind (arith, nat_tests))
    by false sk true ks = absurd (grind (arith, nat_tests))
insert_there {V} s k v (x ∷ xs) = by (nat_eq k x.0) refl (nat_eq s x.0) refl (nat_eq k s) refl (insert_there s k v xs)
  where
    by : (b : Bool) → nat_eq k x.0 ≡ b → (c : Bool) → nat_eq s x.0 ≡ c → (d : Bool) → nat_eq k s ≡ d
        → is_some (lookup (nat_eq s) (insert_entry nat_eq xs k v)) ≡ (is_some (lookup (nat_eq s) xs) || d)
        → is_some (lookup (nat_eq s) (if b then (x.0, v) ∷ xs else x ∷ insert_entry nat_eq xs k v)) ≡ (is_some (cond c (Some x.1) (lookup (nat_eq s) xs)) || d)
    by true kx true sx d ks rest = rw sx refl
    by true kx false sx true ks rest = absurd (grind (arith, nat_tests))
    by true kx false sx false ks rest = rw sx (or_none (is_some (lookup (nat_eq s) xs)))
    by false kx true sx d ks rest = rw sx refl
    by false kx false sx d ks rest = rw sx rest

insert_alone : {V : Type 0} (k : ℕ) (v : V) (xs : List (ℕ × V)) → Alone xs → Alone (insert_entry nat_eq xs k v)
insert_alone k v [] alone = (refl, tt)
insert_alone {V} k v (x ∷ xs) alone = by (nat_eq k x.0) refl (insert_alone k v xs alone.1)
  where
    by : (b : Bool) → nat_eq k x.0 ≡ b → Alone (insert_entry nat_eq xs k v) → Alone (if b then (x.0, v) ∷ xs else x ∷ insert_entry nat_eq xs k v)
    by true is rest = alone
    by false is rest = (none_of (lookup (nat_eq x.0) (insert_entry nat_eq xs k v)) (insert_there x.0 k v xs ∙ ap₂ (λ a b. a || b) (ap is_some alone.0) is), rest)

set_there : {V : Type 0} (other test : ℕ → Bool) (v : V) (xs : List (ℕ × V)) → is_some (lookup other (set_value test xs v)) ≡ is_some (lookup other xs)
set_there other test v [] = refl
set_there {V} other test v (x ∷ xs) = by (test x.0) (other x.0) refl (set_there other test v xs)
  where
    by : (b c : Bool) → other x.0 ≡ c → is_some (lookup other (set_value test xs v)) ≡ is_some (lookup other xs)
        → is_some (lookup other (cond b ((x.0, v) ∷ xs) (x ∷ set_value test xs v))) ≡ is_some (cond c (Some x.1) (lookup other xs))
    by true true is rest = rw is refl
    by true false is rest = rw is refl
    by false true is rest = rw is refl
    by false false is rest = rw is rest

set_same : {V : Type 0} (test : ℕ → Bool) (v : V) (xs : List (ℕ × V)) → SameNumbers (set_value test xs v) xs
set_same test v [] = tt
set_same {V} test v (x ∷ xs) = by (test x.0) (set_same test v xs)
  where
    by : (b : Bool) → SameNumbers (set_value test xs v) xs → SameNumbers (cond b ((x.0, v) ∷ xs) (x ∷ set_value test xs v)) (x ∷ xs)
    by true rest = (refl, tt, same_itself xs)
    by false rest = (refl, tt, rest)

set_alone : {V : Type 0} (test : ℕ → Bool) (v : V) (xs : List (ℕ × V)) → Alone xs → Alone (set_value test xs v)
set_alone test v xs alone = Alone-same xs (set_value test xs v) (set_same test v xs) alone

-- ---- what keeps a subscriber connected or not

abbrev Keeps : SubscriberEvent → Type 0
Keeps (session.grant key config) = Unit {0}
Keeps (session.revoke key) = Unit {0}
Keeps (session.announce list) = Unit {0}
Keeps (session.measure soc quality frac samples) = Unit {0}
Keeps (session.define definition) = Unit {0}
Keeps (session.remove number) = Unit {0}
Keeps (session.tick soc) = Unit {0}
Keeps session.connect = ⊥
Keeps session.hangup = ⊥
Keeps (session.command number word) = Unit {0}
Keeps (session.drain n) = Unit {0}

kept_by : (p : Model) (x : SubscriberEvent) → Keeps x → (r : Option Refusal)
    → (private.next by_arrivals by_numbers p x (unless_refused r (private.answer by_arrivals by_numbers p x (length (private.frames_of by_arrivals by_numbers p x))))).connected ≡ p.connected
kept_by p (session.grant key config) k None = by (has_key p.grants key)
  where
    n : ℕ
    n = length (private.frames_of by_arrivals by_numbers p (session.grant key config))

    by : (b : Bool) → (if b then p else record (private.turned by_arrivals by_numbers p (session.grant key config) n) { grants = granted p.grants key; listed = private.put_first p.listed key config }).connected ≡ p.connected
    by true = refl
    by false = refl
kept_by p (session.grant key config) k (Some r) = refl
kept_by p (session.revoke key) k None = refl
kept_by p (session.revoke key) k (Some r) = refl
kept_by p (session.announce list) k None = refl
kept_by p (session.announce list) k (Some r) = refl
kept_by p (session.measure soc quality frac samples) k None = refl
kept_by p (session.measure soc quality frac samples) k (Some r) = refl
kept_by p (session.define definition) k None = refl
kept_by p (session.define definition) k (Some r) = refl
kept_by p (session.remove number) k None = refl
kept_by p (session.remove number) k (Some r) = refl
kept_by p (session.tick soc) k None = refl
kept_by p (session.tick soc) k (Some r) = refl
kept_by p session.connect k r = absurd k
kept_by p session.hangup k r = absurd k
kept_by p (session.command number word) k None = refl
kept_by p (session.command number word) k (Some r) = by p.connected
  where
    by : (b : Bool) → (if b then record p { output = private.with_refusal p.output r } else p).connected ≡ p.connected
    by true = refl
    by false = refl
kept_by p (session.drain n) k None = refl
kept_by p (session.drain n) k (Some r) = refl

some_keeps : (x y : SubscriberEvent) → Some x ≡ Some y → Keeps x → Keeps y
some_keeps x y e k = let same : x ≡ y = cc in subst Keeps same k

share_keeps : (o : Broadcast) (p : Model) (x : SubscriberEvent) → share o p.grants ≡ Some x → Keeps x
share_keeps (revokes key) p x is = by (has_key p.grants key) is
  where
    by : (b : Bool) → (if b then Some (session.revoke key) else None) ≡ Some x → Keeps x
    by true s = some_keeps (session.revoke key) x s tt
    by false s = absurd (cc)
share_keeps (announces list) p x is = by (filter (λ a. has_key p.grants a.key) list) is
  where
    by : (l : List Announcing) → some_announced l ≡ Some x → Keeps x
    by [] s = absurd (cc)
    by (a ∷ l) s = some_keeps (session.announce (a ∷ l)) x s tt
share_keeps (measures soc quality frac samples) p x is = by (filter (λ s. has_key p.grants s.key) samples) is
  where
    by : (l : List Sample) → some_measured soc quality frac l ≡ Some x → Keeps x
    by [] s = absurd (cc)
    by (a ∷ l) s = some_keeps (session.measure soc quality frac (a ∷ l)) x s tt
share_keeps (ticks soc) p x is = some_keeps (session.tick soc) x is tt

run_share : (o : Broadcast) (own : Option Model) → connected_in (private_run own (share_seen o own)) ≡ connected_in own
run_share o None = refl
run_share o (Some p) = by (share o p.grants) refl
  where
    by : (x : Option SubscriberEvent) → share o p.grants ≡ x → connected_in (private_run (Some p) (as_seen x)) ≡ p.connected
    by None is = refl
    by (Some x) is = kept_by p x (share_keeps o p x is) (private.refusal by_arrivals by_numbers p x)

abbrev KeepsTarget : Target → Type 0
KeepsTarget (to_all o) = Unit {0}
KeepsTarget (to_one w x) = Keeps x
KeepsTarget (adds w size bytes last) = ⊥
KeepsTarget (drops w) = ⊥
KeepsTarget to_none = Unit {0}

target_keeps : (u : ℕ) (own : Option Model) (to : Target) → KeepsTarget to → connected_in (private_run own (part_of u own to)) ≡ connected_in own
target_keeps u own (to_all o) k = run_share o own
target_keeps u own (to_one w x) k = by (nat_eq u w) own
  where
    by : (b : Bool) (o : Option Model) → connected_in (private_run o (if b && is_some o then takes x ∷ [] else [])) ≡ connected_in o
    by true None = refl
    by true (Some p) = kept_by p x k (private.refusal by_arrivals by_numbers p x)
    by false None = refl
    by false (Some p) = refl
target_keeps u own (adds w size bytes last) k = absurd k
target_keeps u own (drops w) k = absurd k
target_keeps u own to_none k = refl

-- an event that neither adds nor drops a subscriber, connects it or hangs it up
abbrev KeepsSessions : GatewayEvent → Type 0
KeepsSessions (add_pmu key) = Unit {0}
KeepsSessions (drop_pmu key) = Unit {0}
KeepsSessions (add_sub u size bytes) = ⊥
KeepsSessions (drop_sub u) = ⊥
KeepsSessions (grant u key) = Unit {0}
KeepsSessions (asks u x) = Keeps x
KeepsSessions (announce config) = Unit {0}
KeepsSessions (measure m) = Unit {0}
KeepsSessions (tick soc) = Unit {0}
KeepsSessions (inquires q) = Unit {0}

unless_keeps : (r : Option Refusal) (o : Broadcast) → KeepsTarget (unless r (to_all o))
unless_keeps None o = tt
unless_keeps (Some r) o = tt

keeps_reach : (S : SharedMachine) (e : GatewayEvent) → KeepsSessions e → KeepsTarget (target S e)
keeps_reach S (add_pmu key) k = tt
keeps_reach S (drop_pmu key) k = unless_keeps (refusal S (drop_pmu key)) _
keeps_reach S (add_sub u size bytes) k = absurd k
keeps_reach S (drop_sub u) k = absurd k
keeps_reach S (grant u key) k = by (registered.has_key S.pmus key)
  where
    by : (b : Bool) → KeepsTarget (if b then to_one u (granting S key) else to_none)
    by true = tt
    by false = tt
keeps_reach S (asks u x) k = k
keeps_reach S (announce config) k = unless_keeps (refusal S (announce config)) _
keeps_reach S (measure m) k = unless_keeps (refusal S (measure m)) _
keeps_reach S (tick soc) k = tt
keeps_reach S (inquires q) k = tt

sessions_kept : (S : SharedMachine) (e : GatewayEvent) (u : ℕ) → Alone S.subs → KeepsSessions e → connected_in (own_of u (shared_step S e)) ≡ connected_in (own_of u S)
sessions_kept S e u alone k = ap connected_in (own-step u S e alone) ∙ target_keeps u (own_of u S) (target S e) (keeps_reach S e k)

-- ---- what connects a subscriber, and what ends that

connect_so : (p : Model) → (private.next by_arrivals by_numbers p session.connect (full_told p session.connect)).connected ≡ true
connect_so p = by p.connected refl
  where
    by : (b : Bool) → p.connected ≡ b → (private.next by_arrivals by_numbers p session.connect (unless_refused (refuse b Busy None) (done 0 0))).connected ≡ true
    by true is = is
    by false is = refl

hangup_so : (p : Model) → (private.next by_arrivals by_numbers p session.hangup (full_told p session.hangup)).connected ≡ false
hangup_so p = by p.connected refl
  where
    by : (b : Bool) → p.connected ≡ b → (private.next by_arrivals by_numbers p session.hangup (unless_refused (refuse (not b) NotConnected None) (done 0 0))).connected ≡ false
    by true is = refl
    by false is = is

connects : (S : SharedMachine) (w u : ℕ) → Alone S.subs
    → connected_in (own_of u (shared_step S (asks w session.connect))) ≡ (if nat_eq u w then is_some (own_of u S) else connected_in (own_of u S))
connects S w u alone = ap connected_in (own-step u S (asks w session.connect) alone) ∙ by (nat_eq u w) (own_of u S)
  where
    by : (b : Bool) (o : Option Model) → connected_in (private_run o (if b && is_some o then takes session.connect ∷ [] else [])) ≡ (if b then is_some o else connected_in o)
    by true None = refl
    by true (Some p) = connect_so p
    by false o = refl

hangs_up : (S : SharedMachine) (w u : ℕ) → Alone S.subs
    → connected_in (own_of u (shared_step S (asks w session.hangup))) ≡ (if nat_eq u w then false else connected_in (own_of u S))
hangs_up S w u alone = ap connected_in (own-step u S (asks w session.hangup) alone) ∙ by (nat_eq u w) (own_of u S)
  where
    by : (b : Bool) (o : Option Model) → connected_in (private_run o (if b && is_some o then takes session.hangup ∷ [] else [])) ≡ (if b then false else connected_in o)
    by true None = refl
    by true (Some p) = hangup_so p
    by false o = refl

pub connect_done : (S : SharedMachine) (w : ℕ) → is_done (full_answer S (asks w session.connect)) ≡ (is_some (own_of w S) && not (connected_in (own_of w S)))
connect_done S w = ap is_done (own_full (slot_of w S.subs) session.connect) ∙ by (slot_of w S.subs)
  where
    by : (o : Option SubscriberSlot) → is_done_so (full_own o session.connect) ≡ (is_some (owned o) && not (connected_in (owned o)))
    by None = refl
    by (Some s) = so s.own.connected
      where
        so : (b : Bool) → is_done_so (unless_refused (refuse b Busy None) (done 0 0)) ≡ not b
        so true = refl
        so false = refl

pub hangup_done : (S : SharedMachine) (w : ℕ) → is_done (full_answer S (asks w session.hangup)) ≡ connected_in (own_of w S)
hangup_done S w = ap is_done (own_full (slot_of w S.subs) session.hangup) ∙ by (slot_of w S.subs)
  where
    by : (o : Option SubscriberSlot) → is_done_so (full_own o session.hangup) ≡ connected_in (owned o)
    by None = refl
    by (Some s) = so s.own.connected
      where
        so : (b : Bool) → is_done_so (unless_refused (refuse (not b) NotConnected None) (done 0 0)) ≡ b
        so true = refl
        so false = refl

-- a subscriber that is dropped is not there, and not connected
drops_sub : (S : SharedMachine) (w u : ℕ) → Alone S.subs → connected_in (own_of u (shared_step S (drop_sub w))) ≡ (if nat_eq u w then false else connected_in (own_of u S))
drops_sub S w u alone = ap connected_in (own-step u S (drop_sub w) alone) ∙ by (is_some (slot_of w S.subs)) refl (nat_eq u w) refl
  where
    by : (there : Bool) → is_some (slot_of w S.subs) ≡ there → (b : Bool) → nat_eq u w ≡ b
        → connected_in (private_run (own_of u S) (part_of u (own_of u S) (unless (refuse (not there) NoSuchSub None) (drops w)))) ≡ (if b then false else connected_in (own_of u S))
    by true is true same = rw same refl
    by true is false other = rw other refl
    by false is true same = ap (λ o. connected_in (option_map (λ s. s.own) o)) (none_of (slot_of u S.subs) (ap (λ v. is_some (slot_of v S.subs)) (eqb-true u w same) ∙ is))
    by false is false other = refl

pub drop_done : (S : SharedMachine) (w : ℕ) → is_done (full_answer S (drop_sub w)) ≡ is_some (slot_of w S.subs)
drop_done S w = by (is_some (slot_of w S.subs))
  where
    by : (there : Bool) → is_done (full_by (refuse (not there) NoSuchSub None) (tells (reached_answer (unless (refuse (not there) NoSuchSub None) (drops w)) S.subs (frames_reached (unless (refuse (not there) NoSuchSub None) (drops w)) S.subs)))) ≡ there
    by true = refl
    by false = refl

-- one that is added is not connected, and it was not there
adds_sub : (S : SharedMachine) (w size bytes u : ℕ) → Alone S.subs → connected_in (own_of u (shared_step S (add_sub w size bytes))) ≡ connected_in (own_of u S)
adds_sub S w size bytes u alone = ap connected_in (own-step u S (add_sub w size bytes) alone) ∙ by (is_some (slot_of w S.subs)) refl (nat_le 64 (length S.subs)) (nat_eq u w) refl
  where
    by : (there : Bool) → is_some (slot_of w S.subs) ≡ there → (full : Bool) → (b : Bool) → nat_eq u w ≡ b
        → connected_in (private_run (own_of u S) (part_of u (own_of u S) (unless (refuse there SubExists (refuse full SubsFull None)) (adds w size bytes S.last_tick)))) ≡ connected_in (own_of u S)
    by true is full b e = refl
    by false is true b e = refl
    by false is false true same =
        rw same (sym (ap (λ o. connected_in (option_map (λ s. s.own) o)) (none_of (slot_of u S.subs) (ap (λ v. is_some (slot_of v S.subs)) (eqb-true u w same) ∙ is))))
    by false is false false other = rw other refl

-- ---- states

-- no session's bytes broke
abbrev AllWhole : List (ℕ × List ℕ) → Type 0
AllWhole [] = Unit {0}
AllWhole (x ∷ xs) = (break_in x.1 ≡ None) × AllWhole xs

whole_found : (test : ℕ → Bool) (xs : List (ℕ × List ℕ)) (stream : List ℕ) → AllWhole xs → lookup test xs ≡ Some stream → break_in stream ≡ None
whole_found test [] stream whole found = absurd (cc)
whole_found test (x ∷ xs) stream whole found = by (test x.0) found (whole_found test xs stream whole.1)
  where
    by : (b : Bool) → cond b (Some x.1) (lookup test xs) ≡ Some stream → (lookup test xs ≡ Some stream → break_in stream ≡ None) → break_in stream ≡ None
    by true e rest = let same : x.1 ≡ stream = cc in subst (λ s. break_in s ≡ None) same whole.0
    by false e rest = rest e

whole_set : (test : ℕ → Bool) (stream : List ℕ) → break_in stream ≡ None → (xs : List (ℕ × List ℕ)) → AllWhole xs → AllWhole (set_value test xs stream)
whole_set test stream new [] whole = tt
whole_set test stream new (x ∷ xs) whole = by (test x.0) (whole_set test stream new xs whole.1)
  where
    by : (b : Bool) → AllWhole (set_value test xs stream) → AllWhole (cond b ((x.0, stream) ∷ xs) (x ∷ set_value test xs stream))
    by true rest = (new, whole.1)
    by false rest = (whole.0, rest)

whole_remove : (test : ℕ → Bool) (xs : List (ℕ × List ℕ)) → AllWhole xs → AllWhole (remove_entry test xs)
whole_remove test [] whole = tt
whole_remove test (x ∷ xs) whole = by (test x.0) (whole_remove test xs whole.1)
  where
    by : (b : Bool) → AllWhole (remove_entry test xs) → AllWhole (cond b xs (x ∷ remove_entry test xs))
    by true rest = whole.1
    by false rest = (whole.0, rest)

whole_insert : (u : ℕ) (xs : List (ℕ × List ℕ)) → AllWhole xs → AllWhole (insert_entry nat_eq xs u [])
whole_insert u [] whole = (ap break_of no_rest, tt)
whole_insert u (x ∷ xs) whole = by (nat_eq u x.0) (whole_insert u xs whole.1)
  where
    by : (b : Bool) → AllWhole (insert_entry nat_eq xs u []) → AllWhole (if b then (x.0, []) ∷ xs else x ∷ insert_entry nat_eq xs u [])
    by true rest = (ap break_of no_rest, whole.1)
    by false rest = (whole.0, rest)

-- Lines and sessions are where they belong.
pub record Belongs (m : WorldState) : Type 0 where
  pub alone : Alone m.shared.subs
  pub lines_alone : Alone m.lines
  pub fed_alone : Alone m.fed
  pub whole : AllWhole m.fed
  pub lines : (s : ℕ) → is_some (lookup (nat_eq s) m.lines) ≡ has_source m.shared s
  pub fed : (u : ℕ) → is_some (lookup (nat_eq u) m.fed) ≡ connected_in (own_of u m.shared)

-- no key is registered or dropped, and no subscriber connected or hung up
record Stays (S T : SharedMachine) : Type 0 where
  pub alone : Alone T.subs
  pub sources : (s : ℕ) → has_source T s ≡ has_source S s
  pub connected : (u : ℕ) → connected_in (own_of u T) ≡ connected_in (own_of u S)

stays_itself : (S : SharedMachine) → Alone S.subs → Stays S S
stays_itself S alone = record { alone = alone; sources = λ s. refl; connected = λ u. refl }

stays_step : (S : SharedMachine) (e : GatewayEvent) → Alone S.subs → KeepsKeys e → KeepsSessions e → Stays S (shared_step S e)
stays_step S e alone keys sessions = record {
  alone = Alone-next S e (full_answer S e) alone;
  sources = λ s. sources_kept S e (full_answer S e) s keys;
  connected = λ u. sessions_kept S e u alone sessions;
}

stays_then : (S T R : SharedMachine) → Stays S T → Stays T R → Stays S R
stays_then S T R first then_so = record {
  alone = then_so.alone;
  sources = λ s. then_so.sources s ∙ first.sources s;
  connected = λ u. then_so.connected u ∙ first.connected u;
}

abbrev KeepsAction : Action → Type 0
KeepsAction (posts e) = KeepsKeys e × KeepsSessions e
KeepsAction (ignores_frame r) = Unit {0}
KeepsAction (closes r) = Unit {0}
KeepsAction (refuses r) = Unit {0}

abbrev KeepActions : List Action → Type 0
KeepActions [] = Unit {0}
KeepActions (d ∷ actions) = KeepsAction d × KeepActions actions

-- the state that actions leave
abbrev run_actions : SharedMachine → List Action → SharedMachine
run_actions S [] = S
run_actions S (d ∷ actions) = run_actions (after_action S d) actions

run_is : (S : SharedMachine) (actions : List Action) → state_after S (pairs_of (full_effects S actions)) ≡ run_actions S actions
run_is S [] = refl
run_is S (posts e ∷ actions) = run_is (shared_step S e) actions
run_is S (ignores_frame r ∷ actions) = run_is S actions
run_is S (closes r ∷ actions) = run_is S actions
run_is S (refuses r ∷ actions) = run_is S actions

run-append : (S : SharedMachine) (ds es : List Action) → run_actions S (ds ++ es) ≡ run_actions (run_actions S ds) es
run-append S [] es = refl
run-append S (d ∷ ds) es = run-append (after_action S d) ds es

run_stays : (S : SharedMachine) (actions : List Action) → Alone S.subs → KeepActions actions → Stays S (run_actions S actions)
run_stays S [] alone keep = stays_itself S alone
run_stays S (posts e ∷ actions) alone keep =
    let first = stays_step S e alone keep.0.0 keep.0.1 in
    stays_then S (shared_step S e) (run_actions (shared_step S e) actions) first (run_stays (shared_step S e) actions first.alone keep.1)
run_stays S (ignores_frame r ∷ actions) alone keep = run_stays S actions alone keep.1
run_stays S (closes r ∷ actions) alone keep = run_stays S actions alone keep.1
run_stays S (refuses r ∷ actions) alone keep = run_stays S actions alone keep.1

keep_told : (items : List link.Item) (more : List Action) → KeepActions more → KeepActions (map told_action items ++ more)
keep_told [] more keep = keep
keep_told (link.announces config ∷ items) more keep = ((tt, tt), keep_told items more keep)
keep_told (link.measures m ∷ items) more keep = ((tt, tt), keep_told items more keep)
keep_told (link.skips r ∷ items) more keep = (tt, keep_told items more keep)
keep_told (link.rejects_config r ∷ items) more keep = (tt, keep_told items more keep)
keep_told (link.rejects_data r ∷ items) more keep = (tt, keep_told items more keep)
keep_told (link.passes_over ∷ items) more keep = (tt, keep_told items more keep)

keep_close : (broken : Option Refusal) → KeepActions (close broken)
keep_close None = tt
keep_close (Some r) = (tt, tt)

keep_items : (u : ℕ) (items : List Item) → KeepActions (map (item_action u) items)
keep_items u [] = tt
keep_items u (commands c ∷ items) = ((tt, tt), keep_items u items)
keep_items u (ignores r ∷ items) = (tt, keep_items u items)

-- a state whose sources and connections stay
world_state_stays : (m : WorldState) (T : SharedMachine) (lines : List (ℕ × SourceLinkPast)) (fed : List (ℕ × List ℕ)) → Belongs m → Stays m.shared T
    → Alone lines → ((s : ℕ) → is_some (lookup (nat_eq s) lines) ≡ is_some (lookup (nat_eq s) m.lines))
    → Alone fed → AllWhole fed → ((u : ℕ) → is_some (lookup (nat_eq u) fed) ≡ is_some (lookup (nat_eq u) m.fed))
    → Belongs (record { shared = T; lines = lines; fed = fed })
world_state_stays m T lines fed is stays lines_alone same fed_alone whole same' = record {
  alone = stays.alone;
  lines_alone = lines_alone;
  fed_alone = fed_alone;
  whole = whole;
  lines = λ s. same s ∙ is.lines s ∙ sym (stays.sources s);
  fed = λ u. same' u ∙ is.fed u ∙ sym (stays.connected u);
}

-- an input of a source: its line stays
source_belongs : (m : WorldState) (s : ℕ) (actions : List Action) (o : Option SourceLinkPast) → Belongs m → KeepActions actions
    → Belongs (record { shared = state_after m.shared (pairs_of (full_effects m.shared actions)); lines = put_line s m.lines o; fed = m.fed })
source_belongs m s actions o is keep =
    let T = state_after m.shared (pairs_of (full_effects m.shared actions)) in
    let stays : Stays m.shared T = subst (Stays m.shared) (sym (run_is m.shared actions)) (run_stays m.shared actions is.alone keep) in
    by T stays o
  where
    by : (T : SharedMachine) → Stays m.shared T → (o : Option SourceLinkPast) → Belongs (record { shared = T; lines = put_line s m.lines o; fed = m.fed })
    by T stays None = world_state_stays m T m.lines m.fed is stays is.lines_alone (λ s. refl) is.fed_alone is.whole (λ u. refl)
    by T stays (Some line) =
        world_state_stays m T (set_value (nat_eq s) m.lines line) m.fed is stays (set_alone (nat_eq s) line m.lines is.lines_alone)
        (λ k. set_there (nat_eq k) (nat_eq s) line m.lines) is.fed_alone is.whole (λ u. refl)

up_belongs : (m : WorldState) (s : ℕ) → Belongs m → Belongs (after_turn m (full_turn m (link_up s)))
up_belongs m s is = by (lookup (nat_eq s) m.lines)
  where
    by : (o : Option SourceLinkPast) → Belongs (record { shared = state_after m.shared (pairs_of (full_effects m.shared (up_action o))); lines = put_line s m.lines (all_given (line_after (link_up s) [] o)); fed = m.fed })
    by None = source_belongs m s (up_action None) None is (tt, tt)
    by (Some line) = source_belongs m s [] (all_given (line_after (link_up s) [] (Some line))) is tt

bytes_belong : (m : WorldState) (s : ℕ) (piece : List ℕ) → Belongs m → Belongs (after_turn m (full_turn m (pmu_bytes s piece)))
bytes_belong m s piece is = by (lookup (nat_eq s) m.lines)
  where
    by : (o : Option SourceLinkPast) → Belongs (record { shared = state_after m.shared (pairs_of (full_effects m.shared (told_actions piece o))); lines = put_line s m.lines (all_given (line_after (pmu_bytes s piece) (told_more piece o) o)); fed = m.fed })
    by None = source_belongs m s (up_action None) None is (tt, tt)
    by (Some line) =
        source_belongs m s (link_action (told_more piece (Some line)) (link.break_in (line.link.stream ++ piece)))
        (all_given (line_after (pmu_bytes s piece) (told_more piece (Some line)) (Some line))) is
        (keep_told (told_more piece (Some line)) (close (link.break_in (line.link.stream ++ piece))) (keep_close (link.break_in (line.link.stream ++ piece))))

-- ---- bytes of a subscriber

-- a session ends, and its subscriber is hung up
hung_belongs : (m : WorldState) (R : SharedMachine) (u : ℕ) → Belongs m → Stays m.shared R
    → Belongs (record { shared = shared_step R (asks u session.hangup); lines = m.lines; fed = remove_entry (nat_eq u) m.fed })
hung_belongs m R u is stays = record {
  alone = Alone-next R (asks u session.hangup) (full_answer R (asks u session.hangup)) stays.alone;
  lines_alone = is.lines_alone;
  fed_alone = Alone-removed (nat_eq u) m.fed is.fed_alone;
  whole = whole_remove (nat_eq u) m.fed is.whole;
  lines = λ s. is.lines s ∙ sym (sources_kept R (asks u session.hangup) (full_answer R (asks u session.hangup)) s tt ∙ stays.sources s);
  fed = λ w. ap is_some (lookup-removed w u m.fed is.fed_alone) ∙ by w (nat_eq w u) ∙ sym (hangs_up R u w stays.alone);
}
  where
    by : (w : ℕ) (b : Bool) → is_some (if b then None else lookup (nat_eq w) m.fed) ≡ (if b then false else connected_in (own_of w R))
    by w true = refl
    by w false = is.fed w ∙ sym (stays.connected w)

heard_belongs : (m : WorldState) (u : ℕ) (piece : List ℕ) → Belongs m → Belongs (after_turn m (full_turn m (sub_bytes u piece)))
heard_belongs m u piece is = by (lookup (nat_eq u) m.fed) refl
  where
    more : List ℕ → List Item
    more stream = map item_of (frames_in (rest_in stream ++ piece))

    all : (stream : List ℕ) → items_of stream ++ more stream ≡ items_of (stream ++ piece)
    all stream = sym (ap (map item_of) (frames_in-append stream piece).0 ∙ map-append item_of (frames_in stream) (frames_in (rest_in stream ++ piece)))

    state : (stream : List ℕ) (broken : Option Refusal) → break_in stream ≡ None → break_in (stream ++ piece) ≡ broken
        → state_after m.shared (pairs_of (full_effects m.shared (session_grows u stream piece))) ≡ run_actions (run_actions m.shared (map (item_action u) (more stream))) (hang_up u broken)
    state stream broken whole end =
        run_is m.shared (session_grows u stream piece) ∙ ap (run_actions m.shared) (sym (grows u stream piece (more stream) broken whole (all stream) end))
        ∙ run-append m.shared (map (item_action u) (more stream)) (hang_up u broken)

    split : (stream : List ℕ) → lookup (nat_eq u) m.fed ≡ Some stream → (broken : Option Refusal) → break_in (stream ++ piece) ≡ broken
        → Belongs (record { shared = state_after m.shared (pairs_of (full_effects m.shared (session_grows u stream piece))); lines = m.lines; fed = put_fed u (stream ++ piece) m.fed broken })
    split stream found None end =
        let whole = whole_found (nat_eq u) m.fed stream is.whole found in
        let stays = run_stays m.shared (map (item_action u) (more stream)) is.alone (keep_items u (more stream)) in
        world_state_stays m _ m.lines (set_value (nat_eq u) m.fed (stream ++ piece)) is (subst (Stays m.shared) (sym (state stream None whole end)) stays)
        is.lines_alone (λ s. refl) (set_alone (nat_eq u) (stream ++ piece) m.fed is.fed_alone) (whole_set (nat_eq u) (stream ++ piece) end m.fed is.whole)
        (λ w. set_there (nat_eq w) (nat_eq u) (stream ++ piece) m.fed)
    split stream found (Some r) end =
        let whole = whole_found (nat_eq u) m.fed stream is.whole found in
        let stays = run_stays m.shared (map (item_action u) (more stream)) is.alone (keep_items u (more stream)) in
        subst (λ T. Belongs (record { shared = T; lines = m.lines; fed = remove_entry (nat_eq u) m.fed })) (sym (state stream (Some r) whole end))
        (hung_belongs m (run_actions m.shared (map (item_action u) (more stream))) u is stays)

    by : (o : Option (List ℕ)) → lookup (nat_eq u) m.fed ≡ o
        → Belongs (record { shared = state_after m.shared (pairs_of (full_effects m.shared (heard_action u piece (is_some (slot_of u m.shared.subs)) o))); lines = m.lines; fed = fed_more u piece m.fed o })
    by None e = is
    by (Some stream) e = split stream e (break_in (stream ++ piece)) refl

-- ---- events by their names

quiet_belongs : (m : WorldState) (e : GatewayEvent) → Belongs m → KeepsKeys e → KeepsSessions e → Belongs (record { shared = shared_step m.shared e; lines = m.lines; fed = m.fed })
quiet_belongs m e is keys sessions =
    world_state_stays m (shared_step m.shared e) m.lines m.fed is (stays_step m.shared e is.alone keys sessions) is.lines_alone (λ s. refl) is.fed_alone is.whole (λ u. refl)

-- lines that are where they belong
abbrev LinesBelong : List (ℕ × SourceLinkPast) → Pmus → Type 0
LinesBelong lines pmus = Alone lines × ((s : ℕ) → is_some (lookup (nat_eq s) lines) ≡ registered.has_source pmus s)

added_lines : (lines : List (ℕ × SourceLinkPast)) (pmus : Pmus) (key : PmuKey) → LinesBelong lines pmus
    → LinesBelong (if registered.has_source pmus key.source then lines else insert_entry nat_eq lines key.source (new_source_link key.source)) (pmus ++ (key, unannounced) ∷ [])
added_lines lines pmus key is = by (registered.has_source pmus key.source) refl
  where
    covered : registered.has_source pmus key.source ≡ true → (s : ℕ) (b : Bool) → nat_eq key.source s ≡ b → registered.has_source pmus s ≡ (registered.has_source pmus s || b)
    covered has s true same = subst (λ k. registered.has_source pmus k ≡ true) (eqb-true key.source s same) has ∙ or_all (registered.has_source pmus s)
    covered has s false other = or_none (registered.has_source pmus s)

    by : (b : Bool) → registered.has_source pmus key.source ≡ b
        → LinesBelong (if b then lines else insert_entry nat_eq lines key.source (new_source_link key.source)) (pmus ++ (key, unannounced) ∷ [])
    by true has = (is.0, λ s. is.1 s ∙ covered has s (nat_eq key.source s) refl ∙ sym (sources-push pmus key unannounced s))
    by false none = (
      insert_alone key.source (new_source_link key.source) lines is.0,
      λ s. insert_there s key.source (new_source_link key.source) lines ∙ ap (λ b. b || nat_eq key.source s) (is.1 s) ∙ sym (sources-push pmus key unannounced s),
    )

left_lines : (lines : List (ℕ × SourceLinkPast)) (pmus left : Pmus) (k : ℕ) → LinesBelong lines pmus
    → ((s : ℕ) → nat_eq s k ≡ false → registered.has_source left s ≡ registered.has_source pmus s)
    → (registered.has_source left k ≡ true → registered.has_source pmus k ≡ true)
    → LinesBelong (if registered.has_source left k then lines else remove_entry (nat_eq k) lines) left
left_lines lines pmus left k is other less = by (registered.has_source left k) refl
  where
    stays : registered.has_source left k ≡ true → (s : ℕ) (b : Bool) → nat_eq s k ≡ b → is_some (lookup (nat_eq s) lines) ≡ registered.has_source left s
    stays has s true same =
        subst (λ j. is_some (lookup (nat_eq j) lines) ≡ registered.has_source left j) (sym (eqb-true s k same)) (is.1 k ∙ less has ∙ sym has)
    stays has s false apart = is.1 s ∙ sym (other s apart)

    goes : registered.has_source left k ≡ false → (s : ℕ) (b : Bool) → nat_eq s k ≡ b → is_some (if b then None else lookup (nat_eq s) lines) ≡ registered.has_source left s
    goes none s true same = subst (λ j. false ≡ registered.has_source left j) (sym (eqb-true s k same)) (sym none)
    goes none s false apart = is.1 s ∙ sym (other s apart)

    by : (b : Bool) → registered.has_source left k ≡ b → LinesBelong (if b then lines else remove_entry (nat_eq k) lines) left
    by true has = (is.0, λ s. stays has s (nat_eq s k) refl)
    by false none = (Alone-removed (nat_eq k) lines is.0, λ s. ap is_some (lookup-removed s k lines is.0) ∙ goes none s (nat_eq s k) refl)

-- an event that changes keys and no session
keys_belong : (m : WorldState) (e : GatewayEvent) (lines : List (ℕ × SourceLinkPast)) → Belongs m → KeepsSessions e → LinesBelong lines (shared_step m.shared e).pmus
    → Belongs (record { shared = shared_step m.shared e; lines = lines; fed = m.fed })
keys_belong m e lines is sessions so = record {
  alone = Alone-next m.shared e (full_answer m.shared e) is.alone;
  lines_alone = so.0;
  fed_alone = is.fed_alone;
  whole = is.whole;
  lines = so.1;
  fed = λ u. is.fed u ∙ sym (sessions_kept m.shared e u is.alone sessions);
}

add_belongs : (m : WorldState) (key : PmuKey) → Belongs m → Belongs (after_turn m (full_turn m (names (add_pmu key))))
add_belongs m key is = keys_belong m (add_pmu key) _ is tt (by (refusal m.shared (add_pmu key)))
  where
    by : (r : Option Refusal) → LinesBelong (lines_by m.lines m.shared (next m.shared (add_pmu key) (full_by r (tells (done 0 0)))) (add_pmu key) (is_done (full_by r (tells (done 0 0)))))
        (next m.shared (add_pmu key) (full_by r (tells (done 0 0)))).pmus
    by None = added_lines m.lines m.shared.pmus key (is.lines_alone, is.lines)
    by (Some r) = (is.lines_alone, is.lines)

drop_belongs : (m : WorldState) (key : PmuKey) → Belongs m → Belongs (after_turn m (full_turn m (names (drop_pmu key))))
drop_belongs m key is = keys_belong m (drop_pmu key) _ is tt (by (refusal m.shared (drop_pmu key)))
  where
    lines : SharedMachine → List (ℕ × SourceLinkPast)
    lines T = if has_source T key.source then m.lines else remove_entry (nat_eq key.source) m.lines

    left : (t : ReplyValue) (b : Bool) → is_refusal t ≡ b → LinesBelong (lines (next m.shared (drop_pmu key) (tells t))) (next m.shared (drop_pmu key) (tells t)).pmus
    left t true e = rw e (left_lines m.lines m.shared.pmus m.shared.pmus key.source (is.lines_alone, is.lines) (λ s apart. refl) (λ h. h))
    left t false e =
        rw e (left_lines m.lines m.shared.pmus (remove_entry (key_eq key) m.shared.pmus) key.source (is.lines_alone, is.lines)
        (λ s apart. sources_dropped key m.shared.pmus s apart) (sources_less key m.shared.pmus key.source))

    by : (r : Option Refusal) → LinesBelong (lines (next m.shared (drop_pmu key) (full_by r (tells (reached_answer (unless r (to_all (revokes key))) m.shared.subs (frames_reached (unless r (to_all (revokes key))) m.shared.subs))))))
        (next m.shared (drop_pmu key) (full_by r (tells (reached_answer (unless r (to_all (revokes key))) m.shared.subs (frames_reached (unless r (to_all (revokes key))) m.shared.subs))))).pmus
    by None = left (reached_answer (to_all (revokes key)) m.shared.subs (frames_reached (to_all (revokes key)) m.shared.subs)) false refl
    by (Some r) = left (private.refused r) true refl

-- an event that changes a session and no key
session_belongs : (m : WorldState) (e : GatewayEvent) (fed : List (ℕ × List ℕ)) → Belongs m → KeepsKeys e → Alone fed → AllWhole fed
    → ((u : ℕ) → is_some (lookup (nat_eq u) fed) ≡ connected_in (own_of u (shared_step m.shared e)))
    → Belongs (record { shared = shared_step m.shared e; lines = m.lines; fed = fed })
session_belongs m e fed is keys alone whole so = record {
  alone = Alone-next m.shared e (full_answer m.shared e) is.alone;
  lines_alone = is.lines_alone;
  fed_alone = alone;
  whole = whole;
  lines = λ s. is.lines s ∙ sym (sources_kept m.shared e (full_answer m.shared e) s keys);
  fed = so;
}

-- a session that ends where that is done
ends_belong : (m : WorldState) (e : GatewayEvent) (w : ℕ) (done_so : Bool) → Belongs m → KeepsKeys e → (done_so ≡ false → connected_in (own_of w m.shared) ≡ false)
    → ((u : ℕ) → connected_in (own_of u (shared_step m.shared e)) ≡ (if nat_eq u w then false else connected_in (own_of u m.shared)))
    → Belongs (record { shared = shared_step m.shared e; lines = m.lines; fed = (if done_so then remove_entry (nat_eq w) m.fed else m.fed) })
ends_belong m e w true is keys none after =
    session_belongs m e (remove_entry (nat_eq w) m.fed) is keys (Alone-removed (nat_eq w) m.fed is.fed_alone) (whole_remove (nat_eq w) m.fed is.whole)
    (λ u. ap is_some (lookup-removed u w m.fed is.fed_alone) ∙ by u (nat_eq u w) ∙ sym (after u))
  where
    by : (u : ℕ) (b : Bool) → is_some (if b then None else lookup (nat_eq u) m.fed) ≡ (if b then false else connected_in (own_of u m.shared))
    by u true = refl
    by u false = is.fed u
ends_belong m e w false is keys none after =
    session_belongs m e m.fed is keys is.fed_alone is.whole (λ u. is.fed u ∙ by u (nat_eq u w) refl ∙ sym (after u))
  where
    by : (u : ℕ) (b : Bool) → nat_eq u w ≡ b → connected_in (own_of u m.shared) ≡ (if b then false else connected_in (own_of u m.shared))
    by u true same = subst (λ v. connected_in (own_of v m.shared) ≡ false) (sym (eqb-true u w same)) (none refl)
    by u false other = refl

connect_belongs : (m : WorldState) (w : ℕ) (done_so : Bool) → Belongs m → done_so ≡ (is_some (own_of w m.shared) && not (connected_in (own_of w m.shared)))
    → Belongs (record { shared = shared_step m.shared (asks w session.connect); lines = m.lines; fed = (if done_so then insert_entry nat_eq m.fed w [] else m.fed) })
connect_belongs m w true is so =
    session_belongs m (asks w session.connect) (insert_entry nat_eq m.fed w []) is tt (insert_alone w [] m.fed is.fed_alone) (whole_insert w m.fed is.whole)
    (λ u. insert_there u w [] m.fed ∙ ap (λ b. b || nat_eq w u) (is.fed u) ∙ by u (nat_eq u w) refl ∙ sym (connects m.shared w u is.alone))
  where
    there : (b c : Bool) → true ≡ (b && c) → b ≡ true
    there true c h = refl
    there false c h = sym h

    by : (u : ℕ) (b : Bool) → nat_eq u w ≡ b → (connected_in (own_of u m.shared) || nat_eq w u) ≡ (if b then is_some (own_of u m.shared) else connected_in (own_of u m.shared))
    by u true same =
        let flipped : nat_eq w u ≡ true = grind (arith, nat_tests) in
        ap (λ b. connected_in (own_of u m.shared) || b) flipped ∙ sym (or_all (connected_in (own_of u m.shared)))
        ∙ sym (subst (λ v. is_some (own_of v m.shared) ≡ true) (sym (eqb-true u w same)) (there (is_some (own_of w m.shared)) (not (connected_in (own_of w m.shared))) so))
    by u false other =
        let flipped : nat_eq w u ≡ false = grind (arith, nat_tests) in
        ap (λ b. connected_in (own_of u m.shared) || b) flipped ∙ sym (or_none (connected_in (own_of u m.shared)))
connect_belongs m w false is so =
    session_belongs m (asks w session.connect) m.fed is tt is.fed_alone is.whole (λ u. is.fed u ∙ by u (nat_eq u w) refl ∙ sym (connects m.shared w u is.alone))
  where
    alike : (o : Option Model) → false ≡ (is_some o && not (connected_in o)) → connected_in o ≡ is_some o
    alike None h = refl
    alike (Some p) h = so_by p.connected h
      where
        so_by : (b : Bool) → false ≡ (true && not b) → b ≡ true
        so_by true h = refl
        so_by false h = h

    by : (u : ℕ) (b : Bool) → nat_eq u w ≡ b → connected_in (own_of u m.shared) ≡ (if b then is_some (own_of u m.shared) else connected_in (own_of u m.shared))
    by u true same = subst (λ v. connected_in (own_of v m.shared) ≡ is_some (own_of v m.shared)) (sym (eqb-true u w same)) (alike (own_of w m.shared) so)
    by u false other = refl

not_there : (S : SharedMachine) (w : ℕ) → is_some (slot_of w S.subs) ≡ false → connected_in (own_of w S) ≡ false
not_there S w none = ap (λ o. connected_in (option_map (λ s. s.own) o)) (none_of (slot_of w S.subs) none)

asks_belong : (m : WorldState) (w : ℕ) (x : SubscriberEvent) → Belongs m → Belongs (after_turn m (full_turn m (names (asks w x))))
asks_belong m w session.connect is = connect_belongs m w (is_done (full_answer m.shared (asks w session.connect))) is (connect_done m.shared w)
asks_belong m w session.hangup is =
    ends_belong m (asks w session.hangup) w (is_done (full_answer m.shared (asks w session.hangup))) is tt
    (λ no. sym (hangup_done m.shared w) ∙ no) (λ u. hangs_up m.shared w u is.alone)
asks_belong m w (session.grant key config) is = quiet_belongs m (asks w (session.grant key config)) is tt tt
asks_belong m w (session.revoke key) is = quiet_belongs m (asks w (session.revoke key)) is tt tt
asks_belong m w (session.announce list) is = quiet_belongs m (asks w (session.announce list)) is tt tt
asks_belong m w (session.measure soc quality frac samples) is = quiet_belongs m (asks w (session.measure soc quality frac samples)) is tt tt
asks_belong m w (session.define definition) is = quiet_belongs m (asks w (session.define definition)) is tt tt
asks_belong m w (session.remove number) is = quiet_belongs m (asks w (session.remove number)) is tt tt
asks_belong m w (session.tick soc) is = quiet_belongs m (asks w (session.tick soc)) is tt tt
asks_belong m w (session.command number word) is = quiet_belongs m (asks w (session.command number word)) is tt tt
asks_belong m w (session.drain n) is = quiet_belongs m (asks w (session.drain n)) is tt tt

named_belongs : (m : WorldState) (e : GatewayEvent) → Belongs m → Belongs (after_turn m (full_turn m (names e)))
named_belongs m (add_pmu key) is = add_belongs m key is
named_belongs m (drop_pmu key) is = drop_belongs m key is
named_belongs m (add_sub w size bytes) is =
    session_belongs m (add_sub w size bytes) m.fed is tt is.fed_alone is.whole (λ u. is.fed u ∙ sym (adds_sub m.shared w size bytes u is.alone))
named_belongs m (drop_sub w) is =
    ends_belong m (drop_sub w) w (is_done (full_answer m.shared (drop_sub w))) is tt
    (λ no. not_there m.shared w (sym (drop_done m.shared w) ∙ no)) (λ u. drops_sub m.shared w u is.alone)
named_belongs m (grant w key) is = quiet_belongs m (grant w key) is tt tt
named_belongs m (asks w x) is = asks_belong m w x is
named_belongs m (announce config) is = quiet_belongs m (announce config) is tt tt
named_belongs m (measure x) is = quiet_belongs m (measure x) is tt tt
named_belongs m (tick soc) is = quiet_belongs m (tick soc) is tt tt
named_belongs m (inquires q) is = quiet_belongs m (inquires q) is tt tt

-- ---- all inputs

pub turn_belongs : (m : WorldState) (f : InputValue) → Belongs m → Belongs (after_turn m (full_turn m f))
turn_belongs m (link_up s) is = up_belongs m s is
turn_belongs m (pmu_bytes s piece) is = bytes_belong m s piece is
turn_belongs m (sub_bytes u piece) is = heard_belongs m u piece is
turn_belongs m (names e) is = named_belongs m e is

all_belong : (m : WorldState) (inputs : List InputValue) → Belongs m → Belongs (after_turns m (full_turns m inputs))
all_belong m [] is = is
all_belong m (f ∷ inputs) is = all_belong (after_turn m (full_turn m f)) inputs (turn_belongs m f is)

pub opening_belongs : Belongs opening
opening_belongs = record { alone = tt; lines_alone = tt; fed_alone = tt; whole = tt; lines = λ s. refl; fed = λ u. refl }

pub belongs : (inputs : List InputValue) → Belongs (world_state_of inputs)
belongs inputs = all_belong opening inputs opening_belongs
