-- Inputs that name other subscribers change nothing of what a subscriber sees.
use Rattle.std.proofs.Common.{◌≡◌, ◌⊎◌, inl, inr, ℕ, zero, suc, ◌+◌, ◌≤◌, ◌&&◌, nat_eq, nat_le, is_some, cond, Bool, true, false, not, if◌then◌else◌, List, [], ◌∷◌, ◌++◌, length, map, drop, Option, Some, None, refl, sym, ap, ap₂, ◌∙◌, subst, arith, append_assoc}
use Rattle.std.specs.Map.{lookup, set_value, remove_entry}
use Rattle.std.proofs.lemmas.Bool.{eq-eqb, eqb-true}
use Rattle.std.proofs.lemmas.Bool.Decides.{nat_tests}
use Rattle.std.proofs.lemmas.List.{length-append, map-append}
use Rattle.indexmap.specs.IndexMap.{insert_entry}
use Rattle.pg_wire.specs.declared.refusal.Refusal.{Refusal}
use Rattle.pg_wire.specs.declared.refusal.Refusal.TheVariants.{NoSuchSub, SubExists, SubsFull, PmuExists, PmusFull}
use Rattle.pg_registry.specs.Registered as registered
use Rattle.pg_registry.specs.Registered.{Pmus}
use Rattle.pg_ingest.specs.Items as link
use Rattle.pg_audit.specs.declared.audit.What.{What}
use Rattle.pg_session.specs.Events as session
use Rattle.pg_session.specs.Events.{SubscriberEvent}
use Rattle.pg_session.specs.Private.{ReplyValue, done, refuse}
use Rattle.pg_session.specs.Commands.{Item, commands, ignores, items_of, break_in}
use Rattle.pg_gateway.specs.GatewayEvents.{GatewayEvent, add_pmu, drop_pmu, add_sub, drop_sub, grant, asks, announce, measure, tick, Answer, tells, sub_counts, pmu_counts, entry, stands, those_waiting, inquires}
use Rattle.pg_gateway.specs.Judging.{registered_of}
use Rattle.pg_gateway.specs.Sharing.{SubscriberSlot, SubscriberSlots, revokes, announces, measures, broadcast}
use Rattle.pg_gateway.specs.State.{SharedMachine, slot_of, own_of, at_slot, refusal, Target, to_all, to_one, adds, drops, to_none, unless, target, reached_answer, frames_reached, granting, moved, added, with_note, code_of, is_refusal, kept_of, slots_after, slots_noted, names as named, taken_in, pmus_after, tick_after, next}
use Rattle.pg_gateway.specs.Histories.{state_after}
use Rattle.pg_gateway.specs.Views.{private_run, part_of, part, view, full_by, full_answer, shared_step, shared_run}
use Rattle.pg_gateway.specs.Laws.{events_of}
use Rattle.pg_gateway.specs.Related.{Related}
use Rattle.pg_gateway.proofs.RelatedLaws.{Both, Related-length, Related-lookup, Related-set_value, Related-remove_entry}
use Rattle.pg_gateway.proofs.SlotLaws.{owned, Alone, same-at_slot, same-broadcast, lookup-removed}
use Rattle.pg_gateway.proofs.ViewLaws.{own-step, Alone-next}
use Rattle.pg_serve.specs.Inputs.{InputValue, link_up, pmu_bytes, sub_bytes, names}
use Rattle.pg_serve.specs.Actions.{Action, posts, ignores_frame, closes, refuses, pairs_of, item_action, hang_up, session_action, link_action}
use Rattle.pg_serve.specs.WorldStates.{SourceLinkPast, WorldState, opening, is_done, new_source_link, lines_by, fed_by, put_line, put_fed, fed_more, gives_all, gone_up, fed_line, all_given, line_after, after_turn, history_of, heard_action, up_action}
use Rattle.pg_serve.specs.Full.{full_effects, told_more, told_actions, actions_of, full_turn, full_turns, view_of}
use Rattle.pg_serve.specs.Others.{names_other, is_of_other, without_others, adds_by, adds_at, adds_in, NeighboursChangeNothing}
use Rattle.pg_serve.proofs.Framing.{LineAlike, line_same, given_alike, line_up, line_fed, told_alike}
use Rattle.pg_serve.proofs.Taking.{Related-insert}
use Rattle.pg_serve.proofs.Belonging.{connected_in, Belongs, turn_belongs, opening_belongs, connect_done, hangup_done, drop_done}

-- ---- what an event leaves that does not speak of subscribers

abbrev KeepsPmus : GatewayEvent → Type 0
KeepsPmus (add_pmu key) = ⊥
KeepsPmus (drop_pmu key) = ⊥
KeepsPmus (add_sub u size bytes) = Unit {0}
KeepsPmus (drop_sub u) = Unit {0}
KeepsPmus (grant u key) = Unit {0}
KeepsPmus (asks u x) = Unit {0}
KeepsPmus (announce config) = ⊥
KeepsPmus (measure m) = ⊥
KeepsPmus (tick soc) = Unit {0}
KeepsPmus (inquires q) = Unit {0}

told_pmus : (S : SharedMachine) (e : GatewayEvent) (t : ReplyValue) → KeepsPmus e → pmus_after S e t ≡ S.pmus
told_pmus S (add_pmu key) t k = absurd k
told_pmus S (drop_pmu key) t k = absurd k
told_pmus S (add_sub u size bytes) t k = refl
told_pmus S (drop_sub u) t k = refl
told_pmus S (grant u key) t k = refl
told_pmus S (asks u x) t k = refl
told_pmus S (announce config) t k = absurd k
told_pmus S (measure m) t k = absurd k
told_pmus S (tick soc) t k = refl
told_pmus S (inquires q) t k = refl

kept_pmus : (S : SharedMachine) (e : GatewayEvent) (a : Answer) → KeepsPmus e → (next S e a).pmus ≡ S.pmus
kept_pmus S e (tells t) k = told_pmus S e t k
kept_pmus S e (sub_counts x) k = refl
kept_pmus S e (pmu_counts x) k = refl
kept_pmus S e (those_waiting us) k = refl
kept_pmus S e (entry x) k = refl
kept_pmus S e (stands x) k = refl

abbrev KeepsTick : GatewayEvent → Type 0
KeepsTick (add_pmu key) = Unit {0}
KeepsTick (drop_pmu key) = Unit {0}
KeepsTick (add_sub u size bytes) = Unit {0}
KeepsTick (drop_sub u) = Unit {0}
KeepsTick (grant u key) = Unit {0}
KeepsTick (asks u x) = Unit {0}
KeepsTick (announce config) = Unit {0}
KeepsTick (measure m) = Unit {0}
KeepsTick (tick soc) = ⊥
KeepsTick (inquires q) = Unit {0}

told_tick : (last : Option ℕ) (e : GatewayEvent) → KeepsTick e → tick_after last e ≡ last
told_tick last (add_pmu key) k = refl
told_tick last (drop_pmu key) k = refl
told_tick last (add_sub u size bytes) k = refl
told_tick last (drop_sub u) k = refl
told_tick last (grant u key) k = refl
told_tick last (asks u x) k = refl
told_tick last (announce config) k = refl
told_tick last (measure m) k = refl
told_tick last (tick soc) k = absurd k
told_tick last (inquires q) k = refl

pub kept_tick : (S : SharedMachine) (e : GatewayEvent) (a : Answer) → KeepsTick e → (next S e a).last_tick ≡ S.last_tick
kept_tick S e (tells t) k = told_tick S.last_tick e k
kept_tick S e (sub_counts x) k = refl
kept_tick S e (pmu_counts x) k = refl
kept_tick S e (those_waiting us) k = refl
kept_tick S e (entry x) k = refl
kept_tick S e (stands x) k = refl

-- ---- two states that are alike for u

pub record Alike (u : ℕ) (S T : SharedMachine) : Type 0 where
  pub pmus : S.pmus ≡ T.pmus
  pub tick : S.last_tick ≡ T.last_tick
  pub own : own_of u S ≡ own_of u T
  pub alone : Alone S.subs
  pub alone' : Alone T.subs

-- there is room for a subscriber that is added
abbrev HasRoom : GatewayEvent → SharedMachine → Type 0
HasRoom (add_pmu key) S = Unit {0}
HasRoom (drop_pmu key) S = Unit {0}
HasRoom (add_sub u size bytes) S = nat_le 64 (length S.subs) ≡ false
HasRoom (drop_sub u) S = Unit {0}
HasRoom (grant u key) S = Unit {0}
HasRoom (asks u x) S = Unit {0}
HasRoom (announce config) S = Unit {0}
HasRoom (measure m) S = Unit {0}
HasRoom (tick soc) S = Unit {0}
HasRoom (inquires q) S = Unit {0}

-- a state of these parts
abbrev parts : Pmus → Option ℕ → SubscriberSlots → SharedMachine
parts pmus last ss = record { pmus = pmus; subs = ss; last_tick = last }

mine : (u w : ℕ) → not (nat_eq u w) ≡ false → nat_eq u w ≡ true
mine u w h = by (nat_eq u w) h
  where
    by : (b : Bool) → not b ≡ false → b ≡ true
    by true h = refl
    by false h = sym h

not_mine : (u w : ℕ) → not (nat_eq u w) ≡ true → nat_eq u w ≡ false
not_mine u w h = by (nat_eq u w) h
  where
    by : (b : Bool) → not b ≡ true → b ≡ false
    by true h = sym h
    by false h = refl

there_is : (o : Option SubscriberSlot) → is_some (owned o) ≡ is_some o
there_is None = refl
there_is (Some s) = refl

same_there : (u : ℕ) (S T : SharedMachine) → own_of u S ≡ own_of u T → is_some (slot_of u S.subs) ≡ is_some (slot_of u T.subs)
same_there u S T own = sym (there_is (slot_of u S.subs)) ∙ ap is_some own ∙ there_is (slot_of u T.subs)

-- it sees the same of an event
same_reach : (u : ℕ) (pmus : Pmus) (last : Option ℕ) (ss ts : SubscriberSlots) (e : GatewayEvent) → owned (slot_of u ss) ≡ owned (slot_of u ts) → names_other u e ≡ false
    → HasRoom e (parts pmus last ss) → HasRoom e (parts pmus last ts) → target (parts pmus last ss) e ≡ target (parts pmus last ts) e
same_reach u pmus last ss ts (add_pmu key) own mine_so room room' = refl
same_reach u pmus last ss ts (drop_pmu key) own mine_so room room' = refl
same_reach u pmus last ss ts (add_sub w size bytes) own mine_so room room' =
    let there : is_some (slot_of w ss) ≡ is_some (slot_of w ts) =
    subst (λ v. is_some (slot_of v ss) ≡ is_some (slot_of v ts)) (eqb-true u w (mine u w mine_so)) (same_there u (parts pmus last ss) (parts pmus last ts) own) in
    ap₂ (λ b full. unless (refuse b SubExists (refuse full SubsFull None)) (adds w size bytes last)) there (room ∙ sym room')
same_reach u pmus last ss ts (drop_sub w) own mine_so room room' =
    let there : is_some (slot_of w ss) ≡ is_some (slot_of w ts) =
    subst (λ v. is_some (slot_of v ss) ≡ is_some (slot_of v ts)) (eqb-true u w (mine u w mine_so)) (same_there u (parts pmus last ss) (parts pmus last ts) own) in
    ap (λ b. unless (refuse (not b) NoSuchSub None) (drops w)) there
same_reach u pmus last ss ts (grant w key) own mine_so room room' = refl
same_reach u pmus last ss ts (asks w x) own mine_so room room' = refl
same_reach u pmus last ss ts (announce config) own mine_so room room' = refl
same_reach u pmus last ss ts (measure m) own mine_so room room' = refl
same_reach u pmus last ss ts (tick soc) own mine_so room room' = refl
same_reach u pmus last ss ts (inquires q) own mine_so room room' = refl

-- and the registry and the last tick go on alike
same_pmus : (pmus : Pmus) (last : Option ℕ) (ss ts : SubscriberSlots) (e : GatewayEvent) → (shared_step (parts pmus last ss) e).pmus ≡ (shared_step (parts pmus last ts) e).pmus
same_pmus pmus last ss ts (add_pmu key) = by (refusal (parts pmus last ss) (add_pmu key))
  where
    by : (r : Option Refusal) → (next (parts pmus last ss) (add_pmu key) (full_by r (tells (done 0 0)))).pmus ≡ (next (parts pmus last ts) (add_pmu key) (full_by r (tells (done 0 0)))).pmus
    by None = refl
    by (Some r) = refl
same_pmus pmus last ss ts (drop_pmu key) = by (refusal (parts pmus last ss) (drop_pmu key))
  where
    answer_by : Option Refusal → SubscriberSlots → Answer
    answer_by r seats = full_by r (tells (reached_answer (unless r (to_all (revokes key))) seats (frames_reached (unless r (to_all (revokes key))) seats)))

    by : (r : Option Refusal) → (next (parts pmus last ss) (drop_pmu key) (answer_by r ss)).pmus ≡ (next (parts pmus last ts) (drop_pmu key) (answer_by r ts)).pmus
    by None = refl
    by (Some r) = refl
same_pmus pmus last ss ts (announce config) = by (refusal (parts pmus last ss) (announce config))
  where
    to : Target
    to = to_all (announces (registered_of pmus config))

    answer_by : Option Refusal → SubscriberSlots → Answer
    answer_by r seats = full_by r (tells (reached_answer (unless r to) seats (frames_reached (unless r to) seats)))

    by : (r : Option Refusal) → (next (parts pmus last ss) (announce config) (answer_by r ss)).pmus ≡ (next (parts pmus last ts) (announce config) (answer_by r ts)).pmus
    by None = refl
    by (Some r) = refl
same_pmus pmus last ss ts (measure m) = by (refusal (parts pmus last ss) (measure m))
  where
    to : Target
    to = to_all (measures m.soc m.quality m.frac (taken_in (parts pmus last ss) m))

    answer_by : Option Refusal → SubscriberSlots → Answer
    answer_by r seats = full_by r (tells (reached_answer (unless r to) seats (frames_reached (unless r to) seats)))

    by : (r : Option Refusal) → (next (parts pmus last ss) (measure m) (answer_by r ss)).pmus ≡ (next (parts pmus last ts) (measure m) (answer_by r ts)).pmus
    by None = refl
    by (Some r) = refl
same_pmus pmus last ss ts (add_sub w size bytes) = kept_pmus (parts pmus last ss) (add_sub w size bytes) (full_answer (parts pmus last ss) (add_sub w size bytes)) tt ∙ sym (kept_pmus (parts pmus last ts) (add_sub w size bytes) (full_answer (parts pmus last ts) (add_sub w size bytes)) tt)
same_pmus pmus last ss ts (drop_sub w) = kept_pmus (parts pmus last ss) (drop_sub w) (full_answer (parts pmus last ss) (drop_sub w)) tt ∙ sym (kept_pmus (parts pmus last ts) (drop_sub w) (full_answer (parts pmus last ts) (drop_sub w)) tt)
same_pmus pmus last ss ts (grant w key) = kept_pmus (parts pmus last ss) (grant w key) (full_answer (parts pmus last ss) (grant w key)) tt ∙ sym (kept_pmus (parts pmus last ts) (grant w key) (full_answer (parts pmus last ts) (grant w key)) tt)
same_pmus pmus last ss ts (asks w x) = kept_pmus (parts pmus last ss) (asks w x) (full_answer (parts pmus last ss) (asks w x)) tt ∙ sym (kept_pmus (parts pmus last ts) (asks w x) (full_answer (parts pmus last ts) (asks w x)) tt)
same_pmus pmus last ss ts (tick soc) = refl
same_pmus pmus last ss ts (inquires q) = kept_pmus (parts pmus last ss) (inquires q) (full_answer (parts pmus last ss) (inquires q)) tt ∙ sym (kept_pmus (parts pmus last ts) (inquires q) (full_answer (parts pmus last ts) (inquires q)) tt)

is_tick : (e : GatewayEvent) → (KeepsTick e) ⊎ ((soc : ℕ) × (e ≡ tick soc))
is_tick (add_pmu key) = inl tt
is_tick (drop_pmu key) = inl tt
is_tick (add_sub u size bytes) = inl tt
is_tick (drop_sub u) = inl tt
is_tick (grant u key) = inl tt
is_tick (asks u x) = inl tt
is_tick (announce config) = inl tt
is_tick (measure m) = inl tt
is_tick (tick soc) = inr (soc, refl)
is_tick (inquires q) = inl tt

same_tick : (pmus : Pmus) (last : Option ℕ) (ss ts : SubscriberSlots) (e : GatewayEvent) → (shared_step (parts pmus last ss) e).last_tick ≡ (shared_step (parts pmus last ts) e).last_tick
same_tick pmus last ss ts e = by (is_tick e)
  where
    by : (KeepsTick e) ⊎ ((soc : ℕ) × (e ≡ tick soc)) → (shared_step (parts pmus last ss) e).last_tick ≡ (shared_step (parts pmus last ts) e).last_tick
    by (inl k) = kept_tick (parts pmus last ss) e (full_answer (parts pmus last ss) e) k ∙ sym (kept_tick (parts pmus last ts) e (full_answer (parts pmus last ts) e) k)
    by (inr t) = subst (λ x. (shared_step (parts pmus last ss) x).last_tick ≡ (shared_step (parts pmus last ts) x).last_tick) (sym t.1) refl

-- an event that names no other: u sees the same of it, and the states go on alike
step_by_parts : (u : ℕ) (pmus : Pmus) (last : Option ℕ) (ss ts : SubscriberSlots) (e : GatewayEvent) → owned (slot_of u ss) ≡ owned (slot_of u ts) → Alone ss → Alone ts → names_other u e ≡ false
    → HasRoom e (parts pmus last ss) → HasRoom e (parts pmus last ts)
    → Alike u (shared_step (parts pmus last ss) e) (shared_step (parts pmus last ts) e) × (part u (parts pmus last ss) e ≡ part u (parts pmus last ts) e)
step_by_parts u pmus last ss ts e own alone alone' mine_so room room' =
    let S = parts pmus last ss in
    let T = parts pmus last ts in
    let same : part u S e ≡ part u T e = ap₂ (λ o to. part_of u o to) own (same_reach u pmus last ss ts e own mine_so room room') in (
      record {
        pmus = same_pmus pmus last ss ts e;
        tick = same_tick pmus last ss ts e;
        own = own-step u S e alone ∙ ap₂ (λ o v. private_run o v) own same ∙ sym (own-step u T e alone');
        alone = Alone-next S e (full_answer S e) alone;
        alone' = Alone-next T e (full_answer T e) alone';
      },
      same,
    )

pub step_alike : (u : ℕ) (S T : SharedMachine) (e : GatewayEvent) → Alike u S T → names_other u e ≡ false → HasRoom e S → HasRoom e T
    → Alike u (shared_step S e) (shared_step T e) × (part u S e ≡ part u T e)
step_alike u S T e alike mine_so room room' =
    by T.pmus alike.pmus T.last_tick alike.tick room'
  where
    by : (pmus : Pmus) → S.pmus ≡ pmus → (last : Option ℕ) → S.last_tick ≡ last → HasRoom e (parts pmus last T.subs)
        → Alike u (shared_step S e) (shared_step (parts pmus last T.subs) e) × (part u S e ≡ part u (parts pmus last T.subs) e)
    by pmus p last l room' =
        subst (λ q. HasRoom e (parts q last T.subs) → Alike u (shared_step S e) (shared_step (parts q last T.subs) e) × (part u S e ≡ part u (parts q last T.subs) e)) p
        (subst (λ k. HasRoom e (parts S.pmus k T.subs) → Alike u (shared_step S e) (shared_step (parts S.pmus k T.subs) e) × (part u S e ≡ part u (parts S.pmus k T.subs) e)) l
        (λ r. step_by_parts u S.pmus S.last_tick S.subs T.subs e alike.own alike.alone alike.alone' mine_so room r)) room'

-- an event that names another: u sees nothing of it, and the state goes on alike
none_seen : (u : ℕ) (S : SharedMachine) (e : GatewayEvent) → names_other u e ≡ true → part u S e ≡ []
none_seen u S (add_pmu key) other = absurd (cc)
none_seen u S (drop_pmu key) other = absurd (cc)
none_seen u S (add_sub w size bytes) other = by (refusal S (add_sub w size bytes))
  where
    by : (r : Option Refusal) → part_of u (own_of u S) (unless r (adds w size bytes S.last_tick)) ≡ []
    by None = rw (not_mine u w other) refl
    by (Some r) = refl
none_seen u S (drop_sub w) other = by (refusal S (drop_sub w))
  where
    by : (r : Option Refusal) → part_of u (own_of u S) (unless r (drops w)) ≡ []
    by None = rw (not_mine u w other) refl
    by (Some r) = refl
none_seen u S (grant w key) other = by (registered.has_key S.pmus key)
  where
    by : (b : Bool) → part_of u (own_of u S) (if b then to_one w (granting S key) else to_none) ≡ []
    by true = rw (not_mine u w other) refl
    by false = refl
none_seen u S (asks w x) other = rw (not_mine u w other) refl
none_seen u S (announce config) other = absurd (cc)
none_seen u S (measure m) other = absurd (cc)
none_seen u S (tick soc) other = absurd (cc)
none_seen u S (inquires q) other = refl

other_keeps : (u : ℕ) (e : GatewayEvent) → names_other u e ≡ true → KeepsPmus e × KeepsTick e
other_keeps u (add_pmu key) other = absurd (cc)
other_keeps u (drop_pmu key) other = absurd (cc)
other_keeps u (add_sub w size bytes) other = (tt, tt)
other_keeps u (drop_sub w) other = (tt, tt)
other_keeps u (grant w key) other = (tt, tt)
other_keeps u (asks w x) other = (tt, tt)
other_keeps u (announce config) other = absurd (cc)
other_keeps u (measure m) other = absurd (cc)
other_keeps u (tick soc) other = absurd (cc)
other_keeps u (inquires q) other = (tt, tt)

other_alike : (u : ℕ) (S T : SharedMachine) (e : GatewayEvent) → Alike u S T → names_other u e ≡ true → Alike u (shared_step S e) T
other_alike u S T e alike other = record {
  pmus = kept_pmus S e (full_answer S e) (other_keeps u e other).0 ∙ alike.pmus;
  tick = kept_tick S e (full_answer S e) (other_keeps u e other).1 ∙ alike.tick;
  own = own-step u S e alike.alone ∙ ap (λ v. private_run (own_of u S) v) (none_seen u S e other) ∙ alike.own;
  alone = Alone-next S e (full_answer S e) alike.alone;
  alone' = alike.alone';
}

-- ---- lists of events

-- events that u sees, and among them none that adds a subscriber
abbrev AreOwn : ℕ → List GatewayEvent → Type 0
AreOwn u [] = Unit {0}
AreOwn u (e ∷ es) = (names_other u e ≡ false) × ((S : SharedMachine) → HasRoom e S) × AreOwn u es

abbrev AreOthers : ℕ → List GatewayEvent → Type 0
AreOthers u [] = Unit {0}
AreOthers u (e ∷ es) = (names_other u e ≡ true) × AreOthers u es

run_alike : (u : ℕ) (S T : SharedMachine) (es : List GatewayEvent) → Alike u S T → AreOwn u es → Alike u (shared_run S es) (shared_run T es) × (view u S es ≡ view u T es)
run_alike u S T [] alike own = (alike, refl)
run_alike u S T (e ∷ es) alike own =
    let one = step_alike u S T e alike own.0 (own.1 S) (own.1 T) in
    let rest = run_alike u (shared_step S e) (shared_step T e) es one.0 own.2 in
    (rest.0, ap₂ (λ x y. x ++ y) one.1 rest.1)

others_alike : (u : ℕ) (S T : SharedMachine) (es : List GatewayEvent) → Alike u S T → AreOthers u es → Alike u (shared_run S es) T × (view u S es ≡ [])
others_alike u S T [] alike others = (alike, refl)
others_alike u S T (e ∷ es) alike others =
    let rest = others_alike u (shared_step S e) T es (other_alike u S T e alike others.0) others.1 in
    (rest.0, ap₂ (λ x y. x ++ y) (none_seen u S e others.0) rest.1)

view-append : (u : ℕ) (S : SharedMachine) (es fs : List GatewayEvent) → view u S (es ++ fs) ≡ view u S es ++ view u (shared_run S es) fs
view-append u S [] fs = refl
view-append u S (e ∷ es) fs = ap (λ v. part u S e ++ v) (view-append u (shared_step S e) es fs) ∙ sym (append_assoc (part u S e) (view u (shared_step S e) es) (view u (shared_run (shared_step S e) es) fs))

-- the events that are due
abbrev pub posted : List Action → List GatewayEvent
posted [] = []
posted (posts e ∷ actions) = e ∷ posted actions
posted (ignores_frame r ∷ actions) = posted actions
posted (closes r ∷ actions) = posted actions
posted (refuses r ∷ actions) = posted actions

pub events_posted : (S : SharedMachine) (actions : List Action) → events_of (pairs_of (full_effects S actions)) ≡ posted actions
events_posted S [] = refl
events_posted S (posts e ∷ actions) = ap (λ es. e ∷ es) (events_posted (shared_step S e) actions)
events_posted S (ignores_frame r ∷ actions) = events_posted S actions
events_posted S (closes r ∷ actions) = events_posted S actions
events_posted S (refuses r ∷ actions) = events_posted S actions

pub run_posted : (S : SharedMachine) (actions : List Action) → state_after S (pairs_of (full_effects S actions)) ≡ shared_run S (posted actions)
run_posted S [] = refl
run_posted S (posts e ∷ actions) = run_posted (shared_step S e) actions
run_posted S (ignores_frame r ∷ actions) = run_posted S actions
run_posted S (closes r ∷ actions) = run_posted S actions
run_posted S (refuses r ∷ actions) = run_posted S actions

abbrev pub made_from : WorldState → List InputValue → List GatewayEvent
made_from m inputs = events_of (history_of (full_turns m inputs))

abbrev pub turned : WorldState → InputValue → WorldState
turned m f = after_turn m (full_turn m f)

pub view_turn : (u : ℕ) (m : WorldState) (f : InputValue) (inputs : List InputValue)
    → view u m.shared (made_from m (f ∷ inputs)) ≡ view u m.shared (posted (actions_of m f)) ++ view u (turned m f).shared (made_from (turned m f) inputs)
view_turn u m f inputs =
    ap (view u m.shared) (map-append (λ (x : GatewayEvent × Answer). x.0) (pairs_of (full_effects m.shared (actions_of m f))) (history_of (full_turns (turned m f) inputs))
    ∙ ap (λ es. es ++ made_from (turned m f) inputs) (events_posted m.shared (actions_of m f)))
    ∙ view-append u m.shared (posted (actions_of m f)) (made_from (turned m f) inputs)
    ∙ ap (λ S. view u m.shared (posted (actions_of m f)) ++ view u S (made_from (turned m f) inputs)) (sym (run_posted m.shared (actions_of m f)))

-- ---- what is due of a subscriber's bytes

abbrev pub IsAt : ℕ → Action → Type 0
IsAt w (posts e) = (x : SubscriberEvent) × (e ≡ asks w x)
IsAt w (ignores_frame r) = Unit {0}
IsAt w (closes r) = Unit {0}
IsAt w (refuses r) = Unit {0}

abbrev pub AllAt : ℕ → List Action → Type 0
AllAt w [] = Unit {0}
AllAt w (d ∷ actions) = IsAt w d × AllAt w actions

at-append : (w : ℕ) (ds es : List Action) → AllAt w ds → AllAt w es → AllAt w (ds ++ es)
at-append w [] es h k = k
at-append w (d ∷ ds) es h k = (h.0, at-append w ds es h.1 k)

at-drop : (w n : ℕ) (actions : List Action) → AllAt w actions → AllAt w (drop n actions)
at-drop w zero actions h = h
at-drop w (suc n) [] h = tt
at-drop w (suc n) (d ∷ actions) h = at-drop w n actions h.1

at_items : (w : ℕ) (items : List Item) → AllAt w (map (item_action w) items)
at_items w [] = tt
at_items w (commands c ∷ items) = ((session.command c.stream c.word, refl), at_items w items)
at_items w (ignores r ∷ items) = (tt, at_items w items)

at_break : (w : ℕ) (broken : Option Refusal) → AllAt w (hang_up w broken)
at_break w None = tt
at_break w (Some r) = (tt, ((session.hangup, refl), tt))

pub at_heard : (w : ℕ) (piece : List ℕ) (there : Bool) (o : Option (List ℕ)) → AllAt w (heard_action w piece there o)
at_heard w piece there None = (tt, tt)
at_heard w piece there (Some stream) =
    at-drop w (length (session_action w stream)) (session_action w (stream ++ piece))
    (at-append w (map (item_action w) (items_of (stream ++ piece))) (hang_up w (break_in (stream ++ piece))) (at_items w (items_of (stream ++ piece))) (at_break w (break_in (stream ++ piece))))

itself : (u : ℕ) → nat_eq u u ≡ true
itself u = eq-eqb u u refl

at_own : (u : ℕ) (actions : List Action) → AllAt u actions → AreOwn u (posted actions)
at_own u [] h = tt
at_own u (posts e ∷ actions) h =
    (subst (λ x. names_other u x ≡ false) (sym h.0.1) (ap not (itself u)), subst (λ x. (S : SharedMachine) → HasRoom x S) (sym h.0.1) (λ S. tt), at_own u actions h.1)
at_own u (ignores_frame r ∷ actions) h = at_own u actions h.1
at_own u (closes r ∷ actions) h = at_own u actions h.1
at_own u (refuses r ∷ actions) h = at_own u actions h.1

at_others : (u w : ℕ) (actions : List Action) → nat_eq u w ≡ false → AllAt w actions → AreOthers u (posted actions)
at_others u w [] apart h = tt
at_others u w (posts e ∷ actions) apart h = (subst (λ x. names_other u x ≡ true) (sym h.0.1) (ap not apart), at_others u w actions apart h.1)
at_others u w (ignores_frame r ∷ actions) apart h = at_others u w actions apart h.1
at_others u w (closes r ∷ actions) apart h = at_others u w actions apart h.1
at_others u w (refuses r ∷ actions) apart h = at_others u w actions apart h.1

pub told_own : (u : ℕ) (items : List link.Item) (broken : Option Refusal) → AreOwn u (posted (link_action items broken))
told_own u [] None = tt
told_own u [] (Some r) = tt
told_own u (link.announces config ∷ items) broken = (refl, (λ S. tt), told_own u items broken)
told_own u (link.measures m ∷ items) broken = (refl, (λ S. tt), told_own u items broken)
told_own u (link.skips r ∷ items) broken = told_own u items broken
told_own u (link.rejects_config r ∷ items) broken = told_own u items broken
told_own u (link.rejects_data r ∷ items) broken = told_own u items broken
told_own u (link.passes_over ∷ items) broken = told_own u items broken

-- ---- entries of one number

insert_here : {V : Type 0} (u : ℕ) (v : V) (xs : List (ℕ × V)) → lookup (nat_eq u) (insert_entry nat_eq xs u v) ≡ Some v
insert_here u v [] = rw (itself u) refl
insert_here {V} u v (x ∷ xs) = by (nat_eq u x.0) refl (insert_here u v xs)
  where
    by : (b : Bool) → nat_eq u x.0 ≡ b → lookup (nat_eq u) (insert_entry nat_eq xs u v) ≡ Some v
        → lookup (nat_eq u) (if b then (x.0, v) ∷ xs else x ∷ insert_entry nat_eq xs u v) ≡ Some v
    by true is rest = rw is refl
    by false is rest = rw is rest

insert_apart : {V : Type 0} (u w : ℕ) (v : V) (xs : List (ℕ × V)) → nat_eq u w ≡ false → lookup (nat_eq u) (insert_entry nat_eq xs w v) ≡ lookup (nat_eq u) xs
insert_apart u w v [] apart = rw apart refl
insert_apart {V} u w v (x ∷ xs) apart = by (nat_eq w x.0) refl (nat_eq u x.0) refl (insert_apart u w v xs apart)
  where
    by : (b : Bool) → nat_eq w x.0 ≡ b → (c : Bool) → nat_eq u x.0 ≡ c → lookup (nat_eq u) (insert_entry nat_eq xs w v) ≡ lookup (nat_eq u) xs
        → lookup (nat_eq u) (if b then (x.0, v) ∷ xs else x ∷ insert_entry nat_eq xs w v) ≡ cond c (Some x.1) (lookup (nat_eq u) xs)
    by true wx true ux rest = absurd (grind (arith, nat_tests))
    by true wx false ux rest = rw ux refl
    by false wx true ux rest = rw ux refl
    by false wx false ux rest = rw ux rest

set_here : {V : Type 0} (u : ℕ) (old v : V) (xs : List (ℕ × V)) → lookup (nat_eq u) xs ≡ Some old → lookup (nat_eq u) (set_value (nat_eq u) xs v) ≡ Some v
set_here u old v [] found = absurd (cc)
set_here {V} u old v (x ∷ xs) found = by (nat_eq u x.0) refl found (set_here u old v xs)
  where
    by : (b : Bool) → nat_eq u x.0 ≡ b → cond b (Some x.1) (lookup (nat_eq u) xs) ≡ Some old
        → (lookup (nat_eq u) xs ≡ Some old → lookup (nat_eq u) (set_value (nat_eq u) xs v) ≡ Some v)
        → lookup (nat_eq u) (cond b ((x.0, v) ∷ xs) (x ∷ set_value (nat_eq u) xs v)) ≡ Some v
    by true is f rest = rw is refl
    by false is f rest = rw is (rest f)

set_apart : {V : Type 0} (u w : ℕ) (v : V) (xs : List (ℕ × V)) → nat_eq u w ≡ false → lookup (nat_eq u) (set_value (nat_eq w) xs v) ≡ lookup (nat_eq u) xs
set_apart u w v [] apart = refl
set_apart {V} u w v (x ∷ xs) apart = by (nat_eq w x.0) refl (nat_eq u x.0) refl (set_apart u w v xs apart)
  where
    by : (b : Bool) → nat_eq w x.0 ≡ b → (c : Bool) → nat_eq u x.0 ≡ c → lookup (nat_eq u) (set_value (nat_eq w) xs v) ≡ lookup (nat_eq u) xs
        → lookup (nat_eq u) (cond b ((x.0, v) ∷ xs) (x ∷ set_value (nat_eq w) xs v)) ≡ cond c (Some x.1) (lookup (nat_eq u) xs)
    by true wx true ux rest = absurd (grind (arith, nat_tests))
    by true wx false ux rest = rw ux refl
    by false wx true ux rest = rw ux refl
    by false wx false ux rest = rw ux rest

remove_here : {V : Type 0} (u : ℕ) (xs : List (ℕ × V)) → Alone xs → lookup (nat_eq u) (remove_entry (nat_eq u) xs) ≡ None
remove_here u xs alone = lookup-removed u u xs alone ∙ rw (itself u) refl

remove_apart : {V : Type 0} (u w : ℕ) (xs : List (ℕ × V)) → Alone xs → nat_eq u w ≡ false → lookup (nat_eq u) (remove_entry (nat_eq w) xs) ≡ lookup (nat_eq u) xs
remove_apart u w xs alone apart = lookup-removed u w xs alone ∙ rw apart refl

-- ---- two states that are alike for u

pub record AlikeStates (u : ℕ) (m n : WorldState) : Type 0 where
  pub shared : Alike u m.shared n.shared
  pub lines : Related LineAlike m.lines n.lines
  pub fed : lookup (nat_eq u) m.fed ≡ lookup (nat_eq u) n.fed
  pub first : Belongs m
  pub other : Belongs n

-- of an input that names another
fed_apart : (u w : ℕ) (piece : List ℕ) (fed : List (ℕ × List ℕ)) (o : Option (List ℕ)) → nat_eq u w ≡ false → Alone fed
    → lookup (nat_eq u) (fed_more w piece fed o) ≡ lookup (nat_eq u) fed
fed_apart u w piece fed None apart alone = refl
fed_apart u w piece fed (Some stream) apart alone = by (break_in (stream ++ piece))
  where
    by : (b : Option Refusal) → lookup (nat_eq u) (put_fed w (stream ++ piece) fed b) ≡ lookup (nat_eq u) fed
    by None = set_apart u w (stream ++ piece) fed apart
    by (Some r) = remove_apart u w fed alone apart

named_apart : (u : ℕ) (fed : List (ℕ × List ℕ)) (e : GatewayEvent) (done_so : Bool) → names_other u e ≡ true → Alone fed → lookup (nat_eq u) (fed_by fed e done_so) ≡ lookup (nat_eq u) fed
named_apart u fed (add_pmu key) done_so other alone = refl
named_apart u fed (drop_pmu key) done_so other alone = refl
named_apart u fed (add_sub w size bytes) done_so other alone = refl
named_apart u fed (drop_sub w) true other alone = remove_apart u w fed alone (not_mine u w other)
named_apart u fed (drop_sub w) false other alone = refl
named_apart u fed (grant w key) done_so other alone = refl
named_apart u fed (asks w session.connect) true other alone = insert_apart u w [] fed (not_mine u w other)
named_apart u fed (asks w session.connect) false other alone = refl
named_apart u fed (asks w session.hangup) true other alone = remove_apart u w fed alone (not_mine u w other)
named_apart u fed (asks w session.hangup) false other alone = refl
named_apart u fed (asks w (session.grant key config)) done_so other alone = refl
named_apart u fed (asks w (session.revoke key)) done_so other alone = refl
named_apart u fed (asks w (session.announce list)) done_so other alone = refl
named_apart u fed (asks w (session.measure soc quality frac samples)) done_so other alone = refl
named_apart u fed (asks w (session.define definition)) done_so other alone = refl
named_apart u fed (asks w (session.remove number)) done_so other alone = refl
named_apart u fed (asks w (session.tick soc)) done_so other alone = refl
named_apart u fed (asks w (session.command number word)) done_so other alone = refl
named_apart u fed (asks w (session.drain n)) done_so other alone = refl
named_apart u fed (announce config) done_so other alone = refl
named_apart u fed (measure m) done_so other alone = refl
named_apart u fed (tick soc) done_so other alone = refl
named_apart u fed (inquires q) done_so other alone = refl

other_lines : (u : ℕ) (lines : List (ℕ × SourceLinkPast)) (S T : SharedMachine) (e : GatewayEvent) (done_so : Bool) → names_other u e ≡ true → lines_by lines S T e done_so ≡ lines
other_lines u lines S T (add_pmu key) done_so other = absurd (cc)
other_lines u lines S T (drop_pmu key) done_so other = absurd (cc)
other_lines u lines S T (add_sub w size bytes) done_so other = refl
other_lines u lines S T (drop_sub w) done_so other = refl
other_lines u lines S T (grant w key) done_so other = refl
other_lines u lines S T (asks w x) done_so other = refl
other_lines u lines S T (announce config) done_so other = refl
other_lines u lines S T (measure m) done_so other = refl
other_lines u lines S T (tick soc) done_so other = refl
other_lines u lines S T (inquires q) done_so other = refl

pub other_turn : (u : ℕ) (m n : WorldState) (f : InputValue) → AlikeStates u m n → is_of_other u f ≡ true
    → AlikeStates u (turned m f) n × (view u m.shared (posted (actions_of m f)) ≡ [])
other_turn u m n (link_up s) alike other = absurd (cc)
other_turn u m n (pmu_bytes s piece) alike other = absurd (cc)
other_turn u m n (sub_bytes w piece) alike other =
    let actions = actions_of m (sub_bytes w piece) in
    let apart = not_mine u w other in
    let ran = others_alike u m.shared n.shared (posted actions) alike.shared (at_others u w actions apart (at_heard w piece (is_some (slot_of w m.shared.subs)) (lookup (nat_eq w) m.fed))) in (
      record {
        shared = subst (λ S. Alike u S n.shared) (sym (run_posted m.shared actions)) ran.0;
        lines = alike.lines;
        fed = fed_apart u w piece m.fed (lookup (nat_eq w) m.fed) apart alike.first.fed_alone ∙ alike.fed;
        first = turn_belongs m (sub_bytes w piece) alike.first;
        other = alike.other;
      },
      ran.1,
    )
other_turn u m n (names e) alike other =
    let ran = others_alike u m.shared n.shared (e ∷ []) alike.shared (other, tt) in (
      record {
        shared = ran.0;
        lines = subst (λ ls. Related LineAlike ls n.lines)
            (sym (other_lines u m.lines m.shared (shared_step m.shared e) e (is_done (full_answer m.shared e)) other)) alike.lines;
        fed = named_apart u m.fed e (is_done (full_answer m.shared e)) other alike.first.fed_alone ∙ alike.fed;
        first = turn_belongs m (names e) alike.first;
        other = alike.other;
      },
      ran.1,
    )

-- of an input that names no other
abbrev Goes : ℕ → WorldState → WorldState → InputValue → Type 0
Goes u m n f = AlikeStates u (turned m f) (turned n f) × (view u m.shared (posted (actions_of m f)) ≡ view u n.shared (posted (actions_of n f)))

turn_by_actions : (u : ℕ) (m n : WorldState) (f : InputValue) → Alike u m.shared n.shared → actions_of m f ≡ actions_of n f → AreOwn u (posted (actions_of m f))
    → Alike u (state_after m.shared (pairs_of (full_effects m.shared (actions_of m f)))) (state_after n.shared (pairs_of (full_effects n.shared (actions_of n f))))
    × (view u m.shared (posted (actions_of m f)) ≡ view u n.shared (posted (actions_of n f)))
turn_by_actions u m n f alike same own =
    let ran = run_alike u m.shared n.shared (posted (actions_of m f)) alike own in (
      subst (λ S. Alike u S (state_after n.shared (pairs_of (full_effects n.shared (actions_of n f))))) (sym (run_posted m.shared (actions_of m f)))
          (subst (λ T. Alike u (shared_run m.shared (posted (actions_of m f))) T) (sym (run_posted n.shared (actions_of n f) ∙ ap (λ ds. shared_run n.shared (posted ds)) (sym same))) ran.0),
      ran.1 ∙ ap (λ ds. view u n.shared (posted ds)) same,
    )

up_own : (u : ℕ) (o : Option SourceLinkPast) → AreOwn u (posted (up_action o))
up_own u None = tt
up_own u (Some line) = tt

bytes_own : (u : ℕ) (piece : List ℕ) (o : Option SourceLinkPast) → AreOwn u (posted (told_actions piece o))
bytes_own u piece None = tt
bytes_own u piece (Some line) = told_own u (told_more piece (Some line)) (link.break_in (line.link.stream ++ piece))

fed_here : (u : ℕ) (piece : List ℕ) (fed fed' : List (ℕ × List ℕ)) (o : Option (List ℕ)) → lookup (nat_eq u) fed ≡ o → lookup (nat_eq u) fed' ≡ o → Alone fed → Alone fed'
    → lookup (nat_eq u) (fed_more u piece fed o) ≡ lookup (nat_eq u) (fed_more u piece fed' o)
fed_here u piece fed fed' None e e' alone alone' = e ∙ sym e'
fed_here u piece fed fed' (Some stream) e e' alone alone' = by (break_in (stream ++ piece))
  where
    by : (b : Option Refusal) → lookup (nat_eq u) (put_fed u (stream ++ piece) fed b) ≡ lookup (nat_eq u) (put_fed u (stream ++ piece) fed' b)
    by None = set_here u stream (stream ++ piece) fed e ∙ sym (set_here u stream (stream ++ piece) fed' e')
    by (Some r) = remove_here u fed alone ∙ sym (remove_here u fed' alone')

heard_own : (u : ℕ) (m n : WorldState) (piece : List ℕ) → AlikeStates u m n → Goes u m n (sub_bytes u piece)
heard_own u m n piece alike =
    let f = sub_bytes u piece in
    let same : actions_of m f ≡ actions_of n f = ap₂ (λ b o. heard_action u piece b o) (same_there u m.shared n.shared alike.shared.own) alike.fed in
    let ran = turn_by_actions u m n f alike.shared same (at_own u (actions_of m f) (at_heard u piece (is_some (slot_of u m.shared.subs)) (lookup (nat_eq u) m.fed))) in (
      record {
        shared = ran.0;
        lines = alike.lines;
        fed = fed_here u piece m.fed n.fed (lookup (nat_eq u) m.fed) refl (sym alike.fed) alike.first.fed_alone alike.other.fed_alone
            ∙ ap (λ o. lookup (nat_eq u) (fed_more u piece n.fed o)) alike.fed;
        first = turn_belongs m f alike.first;
        other = turn_belongs n f alike.other;
      },
      ran.1,
    )

-- lines go on alike
own_lines : (u : ℕ) (m n : WorldState) (e : GatewayEvent) → AlikeStates u m n → (shared_step m.shared e).pmus ≡ (shared_step n.shared e).pmus
    → Related LineAlike (lines_by m.lines m.shared (shared_step m.shared e) e (is_done (full_answer m.shared e)))
    (lines_by n.lines n.shared (shared_step n.shared e) e (is_done (full_answer n.shared e)))
own_lines u m n (add_pmu key) alike after =
    subst (λ pmus. Related LineAlike (lines_added m.lines m.shared.pmus) (lines_added n.lines pmus)) alike.shared.pmus
    (by (is_added m.shared.pmus) (registered.has_source m.shared.pmus key.source))
  where
    new : SourceLinkPast
    new = new_source_link key.source

    is_added : Pmus → Bool
    is_added pmus = is_done (full_by (refuse (registered.has_key pmus key) PmuExists (refuse (nat_le 256 (length pmus)) PmusFull None)) (tells (done 0 0)))

    lines_added : List (ℕ × SourceLinkPast) → Pmus → List (ℕ × SourceLinkPast)
    lines_added lines pmus =
        if is_added pmus then (if registered.has_source pmus key.source then lines else insert_entry nat_eq lines key.source new) else lines

    by : (b c : Bool) → Related LineAlike (if b then (if c then m.lines else insert_entry nat_eq m.lines key.source new) else m.lines)
        (if b then (if c then n.lines else insert_entry nat_eq n.lines key.source new) else n.lines)
    by true true = alike.lines
    by true false = Related-insert LineAlike key.source new new (line_same new) m.lines n.lines alike.lines
    by false c = alike.lines
own_lines u m n (drop_pmu key) alike after =
    subst (λ pmus. Related LineAlike (lines_left m.lines (shared_step m.shared (drop_pmu key)).pmus) (lines_left n.lines pmus)) after
    (by (registered.has_source (shared_step m.shared (drop_pmu key)).pmus key.source))
  where
    lines_left : List (ℕ × SourceLinkPast) → Pmus → List (ℕ × SourceLinkPast)
    lines_left lines pmus = if registered.has_source pmus key.source then lines else remove_entry (nat_eq key.source) lines

    by : (b : Bool) → Related LineAlike (if b then m.lines else remove_entry (nat_eq key.source) m.lines) (if b then n.lines else remove_entry (nat_eq key.source) n.lines)
    by true = alike.lines
    by false = Related-remove_entry LineAlike (nat_eq key.source) m.lines n.lines alike.lines
own_lines u m n (add_sub w size bytes) alike after = alike.lines
own_lines u m n (drop_sub w) alike after = alike.lines
own_lines u m n (grant w key) alike after = alike.lines
own_lines u m n (asks w x) alike after = alike.lines
own_lines u m n (announce config) alike after = alike.lines
own_lines u m n (measure x) alike after = alike.lines
own_lines u m n (tick soc) alike after = alike.lines
own_lines u m n (inquires q) alike after = alike.lines

-- and so does what u's session was fed
connect_here : (u : ℕ) (fed fed' : List (ℕ × List ℕ)) (b c : Bool) → b ≡ c → lookup (nat_eq u) fed ≡ lookup (nat_eq u) fed'
    → lookup (nat_eq u) (if b then insert_entry nat_eq fed u [] else fed) ≡ lookup (nat_eq u) (if c then insert_entry nat_eq fed' u [] else fed')
connect_here u fed fed' true true same e = insert_here u [] fed ∙ sym (insert_here u [] fed')
connect_here u fed fed' false false same e = e
connect_here u fed fed' true false same e = absurd (cc)
connect_here u fed fed' false true same e = absurd (cc)

end_here : (u : ℕ) (fed fed' : List (ℕ × List ℕ)) (b c : Bool) → b ≡ c → Alone fed → Alone fed' → lookup (nat_eq u) fed ≡ lookup (nat_eq u) fed'
    → lookup (nat_eq u) (if b then remove_entry (nat_eq u) fed else fed) ≡ lookup (nat_eq u) (if c then remove_entry (nat_eq u) fed' else fed')
end_here u fed fed' true true same alone alone' e = remove_here u fed alone ∙ sym (remove_here u fed' alone')
end_here u fed fed' false false same alone alone' e = e
end_here u fed fed' true false same alone alone' e = absurd (cc)
end_here u fed fed' false true same alone alone' e = absurd (cc)

abbrev FedAlike : ℕ → WorldState → WorldState → GatewayEvent → Type 0
FedAlike u m n e = lookup (nat_eq u) (fed_by m.fed e (is_done (full_answer m.shared e))) ≡ lookup (nat_eq u) (fed_by n.fed e (is_done (full_answer n.shared e)))

fed_asked : (u : ℕ) (m n : WorldState) (x : SubscriberEvent) → AlikeStates u m n → FedAlike u m n (asks u x)
fed_asked u m n session.connect alike =
    connect_here u m.fed n.fed (is_done (full_answer m.shared (asks u session.connect))) (is_done (full_answer n.shared (asks u session.connect)))
    (connect_done m.shared u ∙ ap (λ o. is_some o && not (connected_in o)) alike.shared.own ∙ sym (connect_done n.shared u)) alike.fed
fed_asked u m n session.hangup alike =
    end_here u m.fed n.fed (is_done (full_answer m.shared (asks u session.hangup))) (is_done (full_answer n.shared (asks u session.hangup)))
    (hangup_done m.shared u ∙ ap connected_in alike.shared.own ∙ sym (hangup_done n.shared u)) alike.first.fed_alone alike.other.fed_alone alike.fed
fed_asked u m n (session.grant key config) alike = alike.fed
fed_asked u m n (session.revoke key) alike = alike.fed
fed_asked u m n (session.announce list) alike = alike.fed
fed_asked u m n (session.measure soc quality frac samples) alike = alike.fed
fed_asked u m n (session.define definition) alike = alike.fed
fed_asked u m n (session.remove number) alike = alike.fed
fed_asked u m n (session.tick soc) alike = alike.fed
fed_asked u m n (session.command number word) alike = alike.fed
fed_asked u m n (session.drain k) alike = alike.fed

fed_dropped : (u : ℕ) (m n : WorldState) → AlikeStates u m n → FedAlike u m n (drop_sub u)
fed_dropped u m n alike =
    end_here u m.fed n.fed (is_done (full_answer m.shared (drop_sub u))) (is_done (full_answer n.shared (drop_sub u)))
    (drop_done m.shared u ∙ same_there u m.shared n.shared alike.shared.own ∙ sym (drop_done n.shared u)) alike.first.fed_alone alike.other.fed_alone alike.fed

fed_named : (u : ℕ) (m n : WorldState) (e : GatewayEvent) → AlikeStates u m n → names_other u e ≡ false → FedAlike u m n e
fed_named u m n (add_pmu key) alike own = alike.fed
fed_named u m n (drop_pmu key) alike own = alike.fed
fed_named u m n (add_sub w size bytes) alike own = alike.fed
fed_named u m n (drop_sub w) alike own = subst (λ v. FedAlike u m n (drop_sub v)) (eqb-true u w (mine u w own)) (fed_dropped u m n alike)
fed_named u m n (grant w key) alike own = alike.fed
fed_named u m n (asks w x) alike own = subst (λ v. FedAlike u m n (asks v x)) (eqb-true u w (mine u w own)) (fed_asked u m n x alike)
fed_named u m n (announce config) alike own = alike.fed
fed_named u m n (measure x) alike own = alike.fed
fed_named u m n (tick soc) alike own = alike.fed
fed_named u m n (inquires q) alike own = alike.fed

abbrev pub RoomFor : InputValue → SharedMachine → Type 0
RoomFor (link_up s) S = Unit {0}
RoomFor (pmu_bytes s piece) S = Unit {0}
RoomFor (sub_bytes u piece) S = Unit {0}
RoomFor (names e) S = HasRoom e S

-- a line that goes up or is fed
up_alike : (o p : Option SourceLinkPast) → Both LineAlike o p → up_action o ≡ up_action p
up_alike None None h = refl
up_alike (Some a) (Some b) h = refl
up_alike None (Some b) h = absurd h
up_alike (Some a) None h = absurd h

lines_up : (s : ℕ) (xs ys : List (ℕ × SourceLinkPast)) (o p : Option SourceLinkPast) → Both LineAlike o p → Related LineAlike xs ys
    → Related LineAlike (put_line s xs (all_given (line_after (link_up s) [] o))) (put_line s ys (all_given (line_after (link_up s) [] p)))
lines_up s xs ys None None h lines = lines
lines_up s xs ys (Some a) (Some b) h lines =
    Related-set_value LineAlike (nat_eq s) (gives_all (gone_up a)) (gives_all (gone_up b)) (given_alike (gone_up a) (gone_up b) (line_up a b h)) xs ys lines
lines_up s xs ys None (Some b) h lines = absurd h
lines_up s xs ys (Some a) None h lines = absurd h

lines_fed : (s : ℕ) (piece : List ℕ) (xs ys : List (ℕ × SourceLinkPast)) (o p : Option SourceLinkPast) → Both LineAlike o p → Related LineAlike xs ys
    → Related LineAlike (put_line s xs (all_given (line_after (pmu_bytes s piece) (told_more piece o) o)))
    (put_line s ys (all_given (line_after (pmu_bytes s piece) (told_more piece p) p)))
lines_fed s piece xs ys None None h lines = lines
lines_fed s piece xs ys (Some a) (Some b) h lines =
    let one = fed_line a piece (told_more piece (Some a)) in
    let two = fed_line b piece (told_more piece (Some b)) in
    Related-set_value LineAlike (nat_eq s) (gives_all one) (gives_all two)
    (given_alike one two (line_fed a b piece (told_more piece (Some a)) (told_more piece (Some b)) h)) xs ys lines
lines_fed s piece xs ys None (Some b) h lines = absurd h
lines_fed s piece xs ys (Some a) None h lines = absurd h

pub own_turn : (u : ℕ) (m n : WorldState) (f : InputValue) → AlikeStates u m n → is_of_other u f ≡ false → RoomFor f m.shared → RoomFor f n.shared → Goes u m n f
own_turn u m n (link_up s) alike own room room' =
    let f = link_up s in
    let there = Related-lookup LineAlike (nat_eq s) m.lines n.lines alike.lines in
    let ran = turn_by_actions u m n f alike.shared (up_alike (lookup (nat_eq s) m.lines) (lookup (nat_eq s) n.lines) there) (up_own u (lookup (nat_eq s) m.lines)) in (
      record {
        shared = ran.0;
        lines = lines_up s m.lines n.lines (lookup (nat_eq s) m.lines) (lookup (nat_eq s) n.lines) there alike.lines;
        fed = alike.fed;
        first = turn_belongs m f alike.first;
        other = turn_belongs n f alike.other;
      },
      ran.1,
    )
own_turn u m n (pmu_bytes s piece) alike own room room' =
    let f = pmu_bytes s piece in
    let there = Related-lookup LineAlike (nat_eq s) m.lines n.lines alike.lines in
    let ran = turn_by_actions u m n f alike.shared (told_alike piece (lookup (nat_eq s) m.lines) (lookup (nat_eq s) n.lines) there)
    (bytes_own u piece (lookup (nat_eq s) m.lines)) in (
      record {
        shared = ran.0;
        lines = lines_fed s piece m.lines n.lines (lookup (nat_eq s) m.lines) (lookup (nat_eq s) n.lines) there alike.lines;
        fed = alike.fed;
        first = turn_belongs m f alike.first;
        other = turn_belongs n f alike.other;
      },
      ran.1,
    )
own_turn u m n (sub_bytes w piece) alike own room room' = subst (λ v. Goes u m n (sub_bytes v piece)) (eqb-true u w (mine u w own)) (heard_own u m n piece alike)
own_turn u m n (names e) alike own room room' =
    let ran = step_alike u m.shared n.shared e alike.shared own room room' in (
      record {
        shared = ran.0;
        lines = own_lines u m n e alike ran.0.pmus;
        fed = fed_named u m n e alike own;
        first = turn_belongs m (names e) alike.first;
        other = turn_belongs n (names e) alike.other;
      },
      ap (λ v. v ++ []) ran.1,
    )

-- ---- how many subscribers there are

abbrev target_adds : Target → ℕ
target_adds (to_all o) = 0
target_adds (to_one w x) = 0
target_adds (adds w size bytes last) = 1
target_adds (drops w) = 0
target_adds to_none = 0

length_removed : (test : ℕ → Bool) (ss : SubscriberSlots) → length (remove_entry test ss) ≤ length ss
length_removed test [] = omega arith
length_removed test (s ∷ ss) = by (test s.0) (length_removed test ss)
  where
    by : (b : Bool) → length (remove_entry test ss) ≤ length ss → length (cond b ss (s ∷ remove_entry test ss)) ≤ suc (length ss)
    by true h = omega arith
    by false h = omega (arith, h)

length_reached : (to : Target) (t : ReplyValue) (ss : SubscriberSlots) → length (slots_after to t ss) ≤ length ss + target_adds to
length_reached (to_all o) t ss = by (is_refusal t)
  where
    by : (b : Bool) → length (if b then ss else broadcast o ss (kept_of t)) ≤ length ss + 0
    by true = omega arith
    by false = let same = Related-length (λ v w. Unit {0}) (broadcast o ss (kept_of t)) ss (same-broadcast o ss (kept_of t)) in omega (arith, same)
length_reached (to_one w x) t ss =
    let same = Related-length (λ v w. Unit {0}) (at_slot w (moved x t) ss) ss (same-at_slot w (moved x t) ss) in omega (arith, same)
length_reached (adds w size bytes last) t ss = by (is_refusal t)
  where
    by : (b : Bool) → length (if b then ss else ss ++ (w, added size bytes last) ∷ []) ≤ length ss + 1
    by true = omega arith
    by false = let one = length-append ss ((w, added size bytes last) ∷ []) in omega (arith, one)
length_reached (drops w) t ss = by (is_refusal t)
  where
    by : (b : Bool) → length (if b then ss else remove_entry (nat_eq w) ss) ≤ length ss + 0
    by true = omega arith
    by false = omega (arith, length_removed (nat_eq w) ss)
length_reached to_none t ss = omega arith

length_noted : (name : Option (ℕ × What)) (t : ReplyValue) (ss : SubscriberSlots) → length (slots_noted name t ss) ≡ length ss
length_noted None t ss = refl
length_noted (Some n) t ss =
    Related-length (λ v w. Unit {0}) (at_slot n.0 (with_note (n.1, code_of t)) ss) ss (same-at_slot n.0 (with_note (n.1, code_of t)) ss)

adds_unless : (r : Option Refusal) (to : Target) → target_adds (unless r to) ≤ target_adds to
adds_unless None to = omega arith
adds_unless (Some r) to = omega arith

target_by : (S : SharedMachine) (e : GatewayEvent) → target_adds (target S e) ≤ adds_by e
target_by S (add_pmu key) = omega arith
target_by S (drop_pmu key) = adds_unless (refusal S (drop_pmu key)) (to_all (revokes key))
target_by S (add_sub w size bytes) = adds_unless (refusal S (add_sub w size bytes)) (adds w size bytes S.last_tick)
target_by S (drop_sub w) = adds_unless (refusal S (drop_sub w)) (drops w)
target_by S (grant w key) = by (registered.has_key S.pmus key)
  where
    by : (b : Bool) → target_adds (if b then to_one w (granting S key) else to_none) ≤ 0
    by true = omega arith
    by false = omega arith
target_by S (asks w x) = omega arith
target_by S (announce config) = adds_unless (refusal S (announce config)) (to_all (announces (registered_of S.pmus config)))
target_by S (measure m) = adds_unless (refusal S (measure m)) (to_all (measures m.soc m.quality m.frac (taken_in S m)))
target_by S (tick soc) = omega arith
target_by S (inquires q) = omega arith

length_next : (S : SharedMachine) (e : GatewayEvent) (a : Answer) → length (next S e a).subs ≤ length S.subs + adds_by e
length_next S e (tells t) =
    let noted = length_noted (named e) t (slots_after (target S e) t S.subs) in
    let reached = length_reached (target S e) t S.subs in
    let few = target_by S e in
    omega (arith, noted, reached, few)
length_next S e (sub_counts x) = omega arith
length_next S e (pmu_counts x) = omega arith
length_next S e (those_waiting us) = omega arith
length_next S e (entry x) = omega arith
length_next S e (stands x) = omega arith

abbrev adds_all : List GatewayEvent → ℕ
adds_all [] = 0
adds_all (e ∷ es) = adds_by e + adds_all es

length_run : (S : SharedMachine) (es : List GatewayEvent) → length (shared_run S es).subs ≤ length S.subs + adds_all es
length_run S [] = omega arith
length_run S (e ∷ es) =
    let one = length_next S e (full_answer S e) in
    let rest = length_run (shared_step S e) es in
    omega (arith, one, rest)

at_adds : (w : ℕ) (actions : List Action) → AllAt w actions → adds_all (posted actions) ≡ 0
at_adds w [] h = refl
at_adds w (posts e ∷ actions) h = let none : adds_by e ≡ 0 = ap adds_by h.0.1 in let rest = at_adds w actions h.1 in omega (arith, none, rest)
at_adds w (ignores_frame r ∷ actions) h = at_adds w actions h.1
at_adds w (closes r ∷ actions) h = at_adds w actions h.1
at_adds w (refuses r ∷ actions) h = at_adds w actions h.1

told_adds : (items : List link.Item) (broken : Option Refusal) → adds_all (posted (link_action items broken)) ≡ 0
told_adds [] None = refl
told_adds [] (Some r) = refl
told_adds (link.announces config ∷ items) broken = let rest = told_adds items broken in omega (arith, rest)
told_adds (link.measures m ∷ items) broken = let rest = told_adds items broken in omega (arith, rest)
told_adds (link.skips r ∷ items) broken = told_adds items broken
told_adds (link.rejects_config r ∷ items) broken = told_adds items broken
told_adds (link.rejects_data r ∷ items) broken = told_adds items broken
told_adds (link.passes_over ∷ items) broken = told_adds items broken

actions_add : (m : WorldState) (f : InputValue) → adds_all (posted (actions_of m f)) ≡ adds_at f
actions_add m (link_up s) = by (lookup (nat_eq s) m.lines)
  where
    by : (o : Option SourceLinkPast) → adds_all (posted (up_action o)) ≡ 0
    by None = refl
    by (Some line) = refl
actions_add m (pmu_bytes s piece) = by (lookup (nat_eq s) m.lines)
  where
    by : (o : Option SourceLinkPast) → adds_all (posted (told_actions piece o)) ≡ 0
    by None = refl
    by (Some line) = told_adds (told_more piece (Some line)) (link.break_in (line.link.stream ++ piece))
actions_add m (sub_bytes w piece) = at_adds w (actions_of m (sub_bytes w piece)) (at_heard w piece (is_some (slot_of w m.shared.subs)) (lookup (nat_eq w) m.fed))
actions_add m (names e) = omega arith

pub length_turn : (m : WorldState) (f : InputValue) → length (turned m f).shared.subs ≤ length m.shared.subs + adds_at f
length_turn m f =
    let actions = actions_of m f in
    let run = length_run m.shared (posted actions) in
    let count = actions_add m f in
    subst (λ S. length S.subs ≤ length m.shared.subs + adds_at f) (sym (run_posted m.shared actions)) (omega (arith, run, count))

less : (n : ℕ) → n + 1 ≤ 64 → nat_le 64 n ≡ false
less n h = by (nat_le 64 n) refl
  where
    by : (b : Bool) → nat_le 64 n ≡ b → b ≡ false
    by true e = absurd (grind (arith, nat_tests))
    by false e = refl

has_room : (e : GatewayEvent) (S : SharedMachine) (others : ℕ) → length S.subs + (adds_by e + others) ≤ 64 → HasRoom e S
has_room (add_pmu key) S others h = tt
has_room (drop_pmu key) S others h = tt
has_room (add_sub u size bytes) S others h = less (length S.subs) (omega (arith, h))
has_room (drop_sub u) S others h = tt
has_room (grant u key) S others h = tt
has_room (asks u x) S others h = tt
has_room (announce config) S others h = tt
has_room (measure m) S others h = tt
has_room (tick soc) S others h = tt
has_room (inquires q) S others h = tt

pub room_for : (f : InputValue) (S : SharedMachine) (others : ℕ) → length S.subs + (adds_at f + others) ≤ 64 → RoomFor f S
room_for (link_up s) S others h = tt
room_for (pmu_bytes s piece) S others h = tt
room_for (sub_bytes u piece) S others h = tt
room_for (names e) S others h = has_room e S others h

-- ---- all inputs

views_alike : (u : ℕ) (inputs : List InputValue) (m n : WorldState) → AlikeStates u m n → length m.shared.subs + adds_in inputs ≤ 64
    → length n.shared.subs + adds_in (without_others u inputs) ≤ 64
    → view u m.shared (made_from m inputs) ≡ view u n.shared (made_from n (without_others u inputs))
views_alike u [] m n alike room room' = refl
views_alike u (f ∷ inputs) m n alike room room' = by (is_of_other u f) refl (views_alike u inputs)
  where
    grown : length m.shared.subs + (adds_at f + adds_in inputs) ≤ 64 → length (turned m f).shared.subs + adds_in inputs ≤ 64
    grown h = let one = length_turn m f in omega (arith, one, h)

    by : (b : Bool) → is_of_other u f ≡ b
        → ((m n : WorldState) → AlikeStates u m n → length m.shared.subs + adds_in inputs ≤ 64 → length n.shared.subs + adds_in (without_others u inputs) ≤ 64
        → view u m.shared (made_from m inputs) ≡ view u n.shared (made_from n (without_others u inputs)))
        → view u m.shared (made_from m (f ∷ inputs)) ≡ view u n.shared (made_from n (without_others u (f ∷ inputs)))
    by true is rest =
        let ran = other_turn u m n f alike is in
        let left : without_others u (f ∷ inputs) ≡ without_others u inputs = rw is refl in
        let room_left : length n.shared.subs + adds_in (without_others u inputs) ≤ 64 = subst (λ fs. length n.shared.subs + adds_in fs ≤ 64) left room' in
        view_turn u m f inputs ∙ ap (λ v. v ++ view u (turned m f).shared (made_from (turned m f) inputs)) ran.1
        ∙ rest (turned m f) n ran.0 (grown room) room_left ∙ ap (λ fs. view u n.shared (made_from n fs)) (sym left)
    by false is rest =
        let left : without_others u (f ∷ inputs) ≡ f ∷ without_others u inputs = rw is refl in
        let room_left : length n.shared.subs + (adds_at f + adds_in (without_others u inputs)) ≤ 64 = subst (λ fs. length n.shared.subs + adds_in fs ≤ 64) left room' in
        let ran = own_turn u m n f alike is (room_for f m.shared (adds_in inputs) room) (room_for f n.shared (adds_in (without_others u inputs)) room_left) in
        let one = length_turn n f in
        view_turn u m f inputs
        ∙ ap₂ (λ v w. v ++ w) ran.1 (rest (turned m f) (turned n f) ran.0 (grown room) (omega (arith, one, room_left)))
        ∙ sym (view_turn u n f (without_others u inputs)) ∙ ap (λ fs. view u n.shared (made_from n fs)) (sym left)

fewer : (u : ℕ) (inputs : List InputValue) → adds_in (without_others u inputs) ≤ adds_in inputs
fewer u [] = omega arith
fewer u (f ∷ inputs) = by (is_of_other u f) (fewer u inputs)
  where
    by : (b : Bool) → adds_in (without_others u inputs) ≤ adds_in inputs
        → adds_in (if not b then f ∷ without_others u inputs else without_others u inputs) ≤ adds_at f + adds_in inputs
    by true h = omega (arith, h)
    by false h = omega (arith, h)

view_without : (u : ℕ) (inputs : List InputValue) → adds_in inputs ≤ 64 → view_of u inputs ≡ view_of u (without_others u inputs)
view_without u inputs room =
    let alike : AlikeStates u opening opening = record {
      shared = record { pmus = refl; tick = refl; own = refl; alone = tt; alone' = tt };
      lines = tt;
      fed = refl;
      first = opening_belongs;
      other = opening_belongs;
    } in
    let few = fewer u inputs in
    views_alike u inputs opening opening alike (omega (arith, room)) (omega (arith, room, few))

pub neighbours_change_nothing : NeighboursChangeNothing
neighbours_change_nothing = record {
  views = λ u is js room room' same. view_without u is room ∙ ap (view_of u) same ∙ sym (view_without u js room');
}
