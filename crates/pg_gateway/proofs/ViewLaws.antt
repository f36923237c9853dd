-- A subscriber's state after any events is the private gateway's after its view.
use Rattle.std.proofs.Common.{◌≡◌, ℕ, ◌&&◌, Bool, true, false, if◌then◌else◌, nat_eq, is_some, List, [], ◌∷◌, ◌++◌, length, Option, Some, None, refl, sym, ap, subst, ◌∙◌}
use Rattle.std.specs.Prelude.{option_map}
use Rattle.std.specs.Map.{remove_entry}
use Rattle.std.proofs.lemmas.Bool.{eqb-true}
use Rattle.pg_wire.specs.declared.refusal.Refusal.{Refusal}
use Rattle.pg_wire.specs.declared.refusal.Refusal.TheVariants.{NoSuchPmu, NoSuchSub}
use Rattle.pg_audit.specs.declared.audit.What.{What}
use Rattle.pg_registry.specs.Registered.{Pmu, pmu_of, has_key}
use Rattle.pg_session.specs.Events.{SubscriberEvent}
use Rattle.pg_session.specs.Private as private
use Rattle.pg_session.specs.Private.{ReplyValue, done, refused, refuse, frames_of}
use Rattle.pg_session.specs.Shown.{Model}
use Rattle.pg_session.specs.ByAll.{by_arrivals, by_numbers}
use Rattle.pg_gateway.specs.GatewayEvents.{GatewayEvent, add_pmu, drop_pmu, add_sub, drop_sub, grant, asks, announce, measure, tick, stats, pmu_stats, audit, standing, who_waits, Answer, tells, sub_counts, pmu_counts, entry, stands, those_waiting, inquires}
use Rattle.pg_gateway.specs.Judging.{registered_of}
use Rattle.pg_gateway.specs.Sharing.{SubscriberSlot, SubscriberSlots, Broadcast, revokes, announces, measures, ticks, total, broadcast}
use Rattle.pg_gateway.specs.State.{SharedMachine, slot_of, own_of, at_slot, own_refusal, grant_refusal, granting, taken_in, refusal, Target, to_all, to_one, adds, drops, to_none, unless, target, own_frames, frames_reached, made, own_answer, reached_answer, answer, stats_answer, pmu_answer, audit_answer, standing_answer, moved, added, is_refusal, kept_of, slots_after, names, with_note, code_of, slots_noted, next}
use Rattle.pg_gateway.specs.Views.{ViewEvent, begins, ends, takes, unless_refused, full_told, private_step, private_run, full_by, full_answer, shared_step, shared_run, part_of, part, view}
use Rattle.pg_gateway.proofs.SlotLaws.{owned, Alone, Alone-push, Alone-removed, Alone-same, same-at_slot, same-broadcast, lookup-push, lookup-removed, slot_of-at_slot, slot_of-broadcast, own-noted}
use Rattle.pg_gateway.proofs.ShareLaws.{share_run}

-- the reply of one subscriber, where it is there
abbrev pub full_own : Option SubscriberSlot → SubscriberEvent → ReplyValue
full_own None x = refused NoSuchSub
full_own (Some s) x = full_told s.own x

pub own_full : (o : Option SubscriberSlot) (x : SubscriberEvent) → full_by (own_refusal o x) (tells (own_answer o x (own_frames o x))) ≡ tells (full_own o x)
own_full None x = refl
own_full (Some s) x = by (private.refusal by_arrivals by_numbers s.own x)
  where
    by : (r : Option Refusal) → full_by r (tells (private.answer by_arrivals by_numbers s.own x (length (frames_of by_arrivals by_numbers s.own x))))
        ≡ tells (unless_refused r (private.answer by_arrivals by_numbers s.own x (length (frames_of by_arrivals by_numbers s.own x))))
    by None = refl
    by (Some r) = refl

pub granted_full : (o : Option SubscriberSlot) (x : SubscriberEvent) → full_by (grant_refusal o true x) (tells (own_answer o x (own_frames o x))) ≡ tells (full_own o x)
granted_full None x = refl
granted_full (Some s) x = own_full (Some s) x

-- an event for one subscriber
pub one_run : (u w : ℕ) (x : SubscriberEvent) (ss : SubscriberSlots) → owned (slot_of u (at_slot w (moved x (full_own (slot_of w ss) x)) ss))
    ≡ private_run (owned (slot_of u ss)) (part_of u (owned (slot_of u ss)) (to_one w x))
one_run u w x ss = ap owned (slot_of-at_slot u w (moved x (full_own (slot_of w ss) x)) ss) ∙ by (nat_eq u w) refl
  where
    at : (o : Option SubscriberSlot) → owned (option_map (moved x (full_own o x)) o) ≡ private_run (owned o) (if true && is_some (owned o) then takes x ∷ [] else [])
    at None = refl
    at (Some s) = refl

    by : (b : Bool) → nat_eq u w ≡ b → owned (if b then option_map (moved x (full_own (slot_of w ss) x)) (slot_of u ss) else slot_of u ss)
        ≡ private_run (owned (slot_of u ss)) (if b && is_some (owned (slot_of u ss)) then takes x ∷ [] else [])
    by true is = subst (λ v. owned (option_map (moved x (full_own (slot_of v ss) x)) (slot_of u ss)) ≡ private_run (owned (slot_of u ss)) (if true && is_some (owned (slot_of u ss)) then takes x ∷ [] else [])) (eqb-true u w is) (at (slot_of u ss))
    by false is = refl

-- an event for all
all_run : (u : ℕ) (o : Broadcast) (ss : SubscriberSlots) → owned (slot_of u (broadcast o ss (total o ss))) ≡ private_run (owned (slot_of u ss)) (part_of u (owned (slot_of u ss)) (to_all o))
all_run u o ss = ap owned (slot_of-broadcast u o ss) ∙ share_run o (slot_of u ss)

-- a subscriber that is added or dropped
add_run : (u w size bytes : ℕ) (last : Option ℕ) (ss : SubscriberSlots) → is_some (slot_of w ss) ≡ false → owned (slot_of u (ss ++ (w, added size bytes last) ∷ []))
    ≡ private_run (owned (slot_of u ss)) (part_of u (owned (slot_of u ss)) (adds w size bytes last))
add_run u w size bytes last ss none = ap owned (lookup-push u w (added size bytes last) ss none) ∙ by (nat_eq u w)
  where
    by : (b : Bool) → owned (if b then Some (added size bytes last) else slot_of u ss) ≡ private_run (owned (slot_of u ss)) (if b then begins size bytes last ∷ [] else [])
    by true = refl
    by false = refl

drop_run : (u w : ℕ) (ss : SubscriberSlots) → Alone ss → owned (slot_of u (remove_entry (nat_eq w) ss)) ≡ private_run (owned (slot_of u ss)) (part_of u (owned (slot_of u ss)) (drops w))
drop_run u w ss alone = ap owned (lookup-removed u w ss alone) ∙ by (nat_eq u w)
  where
    by : (b : Bool) → owned (if b then None else slot_of u ss) ≡ private_run (owned (slot_of u ss)) (if b then ends ∷ [] else [])
    by true = refl
    by false = refl

-- what is noted aside, an event leaves of u what it does to the one or to all that it reaches
after : (u : ℕ) (S : SharedMachine) (e : GatewayEvent) (t : ReplyValue) → own_of u (next S e (tells t)) ≡ owned (slot_of u (slots_after (target S e) t S.subs))
after u S e t = own-noted u (names e) t (slots_after (target S e) t S.subs)

-- an event that reaches nobody where it is refused
unless_run : (u : ℕ) (S : SharedMachine) (e : GatewayEvent) (to : Target) → target S e ≡ unless (refusal S e) to
    → answer S e (made S e) ≡ tells (reached_answer (target S e) S.subs (frames_reached (target S e) S.subs))
    → (refusal S e ≡ None → owned (slot_of u (slots_after to (reached_answer to S.subs (frames_reached to S.subs)) S.subs)) ≡ private_run (own_of u S) (part_of u (own_of u S) to))
    → own_of u (shared_step S e) ≡ private_run (own_of u S) (part u S e)
unless_run u S e to is says otherwise = rw says (by (refusal S e) refl)
  where
    by : (r : Option Refusal) → refusal S e ≡ r
        → own_of u (next S e (full_by r (tells (reached_answer (target S e) S.subs (frames_reached (target S e) S.subs))))) ≡ private_run (own_of u S) (part u S e)
    by None none =
        let same : target S e ≡ to = is ∙ ap (λ q. unless q to) none in
        after u S e (reached_answer (target S e) S.subs (frames_reached (target S e) S.subs))
        ∙ subst (λ z. owned (slot_of u (slots_after z (reached_answer z S.subs (frames_reached z S.subs)) S.subs)) ≡ private_run (own_of u S) (part_of u (own_of u S) z)) (sym same) (otherwise none)
    by (Some r) some =
        let same : target S e ≡ to_none = is ∙ ap (λ q. unless q to) some in
        after u S e (refused r)
        ∙ subst (λ z. owned (slot_of u (slots_after z (refused r) S.subs)) ≡ private_run (own_of u S) (part_of u (own_of u S) z)) (sym same) refl

-- the first of two tests fails where nothing is refused
first_false : (a : Bool) (r : Refusal) (o : Option Refusal) → refuse a r o ≡ None → a ≡ false
first_false true r o is = cc
first_false false r o is = refl

-- one step
pub own-step : (u : ℕ) (S : SharedMachine) (e : GatewayEvent) → Alone S.subs → own_of u (shared_step S e) ≡ private_run (own_of u S) (part u S e)
own-step u S (add_pmu key) alone = by (refusal S (add_pmu key))
  where
    by : (r : Option Refusal) → own_of u (next S (add_pmu key) (full_by r (tells (done 0 0)))) ≡ own_of u S
    by None = refl
    by (Some r) = refl
own-step u S (drop_pmu key) alone = unless_run u S (drop_pmu key) _ refl refl (λ _. all_run u (revokes key) S.subs)
own-step u S (add_sub w size bytes) alone =
    unless_run u S (add_sub w size bytes) _ refl refl (λ none. add_run u w size bytes S.last_tick S.subs (first_false (is_some (slot_of w S.subs)) _ _ none))
own-step u S (drop_sub w) alone = unless_run u S (drop_sub w) _ refl refl (λ _. drop_run u w S.subs alone)
own-step u S (grant w key) alone = by (has_key S.pmus key) refl
  where
    x : SubscriberEvent
    x = granting S key

    to : Bool → Target
    to b = if b then to_one w x else to_none

    refused_to : (r : Refusal) → has_key S.pmus key ≡ false → own_of u (next S (grant w key) (tells (refused r))) ≡ own_of u S
    refused_to r is = after u S (grant w key) (refused r) ∙ ap (λ c. owned (slot_of u (slots_after (to c) (refused r) S.subs))) is

    unregistered : (o : Option SubscriberSlot) → has_key S.pmus key ≡ false → own_of u (next S (grant w key) (full_by (grant_refusal o false x) (tells (done 0 0)))) ≡ own_of u S
    unregistered None is = refused_to NoSuchSub is
    unregistered (Some s) is = refused_to NoSuchPmu is

    by : (b : Bool) → has_key S.pmus key ≡ b
        → own_of u (next S (grant w key) (full_by (grant_refusal (slot_of w S.subs) b x) (tells (reached_answer (to b) S.subs (frames_reached (to b) S.subs)))))
        ≡ private_run (own_of u S) (part_of u (own_of u S) (to b))
    by true is =
        ap (λ a. own_of u (next S (grant w key) a)) (granted_full (slot_of w S.subs) x)
        ∙ after u S (grant w key) (full_own (slot_of w S.subs) x)
        ∙ ap (λ c. owned (slot_of u (slots_after (to c) (full_own (slot_of w S.subs) x) S.subs))) is
        ∙ one_run u w x S.subs
    by false is = unregistered (slot_of w S.subs) is
own-step u S (asks w x) alone =
    ap (λ a. own_of u (next S (asks w x) a)) (own_full (slot_of w S.subs) x) ∙ after u S (asks w x) (full_own (slot_of w S.subs) x) ∙ one_run u w x S.subs
own-step u S (announce config) alone = unless_run u S (announce config) _ refl refl (λ _. all_run u (announces (registered_of S.pmus config)) S.subs)
own-step u S (measure m) alone = unless_run u S (measure m) _ refl refl (λ _. all_run u (measures m.soc m.quality m.frac (taken_in S m)) S.subs)
own-step u S (tick soc) alone = after u S (tick soc) (reached_answer (to_all (ticks soc)) S.subs (total (ticks soc) S.subs)) ∙ all_run u (ticks soc) S.subs
own-step u S (inquires (stats w)) alone = by (refusal S (inquires (stats w))) (slot_of w S.subs)
  where
    by : (r : Option Refusal) (o : Option SubscriberSlot) → own_of u (next S (inquires (stats w)) (full_by r (stats_answer o))) ≡ own_of u S
    by None None = refl
    by None (Some s) = refl
    by (Some r) o = refl
own-step u S (inquires (pmu_stats key)) alone = by (refusal S (inquires (pmu_stats key))) (pmu_of S.pmus key)
  where
    by : (r : Option Refusal) (o : Option Pmu) → own_of u (next S (inquires (pmu_stats key)) (full_by r (pmu_answer o))) ≡ own_of u S
    by None None = refl
    by None (Some pmu) = refl
    by (Some r) o = refl
own-step u S (inquires (who_waits us)) alone = refl
own-step u S (inquires (audit w index)) alone = by (refusal S (inquires (audit w index))) (slot_of w S.subs)
  where
    by : (r : Option Refusal) (o : Option SubscriberSlot) → own_of u (next S (inquires (audit w index)) (full_by r (audit_answer o index))) ≡ own_of u S
    by None None = refl
    by None (Some s) = refl
    by (Some r) o = refl
own-step u S (inquires (standing w place)) alone = by (refusal S (inquires (standing w place))) (slot_of w S.subs)
  where
    by : (r : Option Refusal) (o : Option SubscriberSlot) → own_of u (next S (inquires (standing w place)) (full_by r (standing_answer o place))) ≡ own_of u S
    by None None = refl
    by None (Some s) = refl
    by (Some r) o = refl

-- numbers stay apart
abbrev Fresh : Target → SubscriberSlots → Type 0
Fresh (to_all o) ss = Unit {0}
Fresh (to_one w x) ss = Unit {0}
Fresh (adds w size bytes last) ss = is_some (slot_of w ss) ≡ false
Fresh (drops w) ss = Unit {0}
Fresh to_none ss = Unit {0}

fresh_unless : (r : Option Refusal) (to : Target) (ss : SubscriberSlots) → (r ≡ None → Fresh to ss) → Fresh (unless r to) ss
fresh_unless None to ss fresh = fresh refl
fresh_unless (Some r) to ss fresh = tt

fresh_reach : (S : SharedMachine) (e : GatewayEvent) → Fresh (target S e) S.subs
fresh_reach S (add_pmu key) = tt
fresh_reach S (drop_pmu key) = fresh_unless (refusal S (drop_pmu key)) (to_all (revokes key)) S.subs (λ _. tt)
fresh_reach S (add_sub w size bytes) =
    fresh_unless (refusal S (add_sub w size bytes)) (adds w size bytes S.last_tick) S.subs (λ none. first_false (is_some (slot_of w S.subs)) _ _ none)
fresh_reach S (drop_sub w) = fresh_unless (refusal S (drop_sub w)) (drops w) S.subs (λ _. tt)
fresh_reach S (grant w key) = elim (has_key S.pmus key) as (λ b. Fresh (if b then to_one w (granting S key) else to_none) S.subs) [ true ↦ tt | false ↦ tt ]
fresh_reach S (asks w x) = tt
fresh_reach S (announce config) = fresh_unless (refusal S (announce config)) (to_all (announces (registered_of S.pmus config))) S.subs (λ _. tt)
fresh_reach S (measure m) = fresh_unless (refusal S (measure m)) (to_all (measures m.soc m.quality m.frac (taken_in S m))) S.subs (λ _. tt)
fresh_reach S (tick soc) = tt
fresh_reach S (inquires q) = tt

Alone-after : (to : Target) (t : ReplyValue) (ss : SubscriberSlots) → Fresh to ss → Alone ss → Alone (slots_after to t ss)
Alone-after (to_all o) t ss fresh alone = by (is_refusal t)
  where
    by : (b : Bool) → Alone (if b then ss else broadcast o ss (kept_of t))
    by true = alone
    by false = Alone-same ss (broadcast o ss (kept_of t)) (same-broadcast o ss (kept_of t)) alone
Alone-after (to_one w x) t ss fresh alone = Alone-same ss (at_slot w (moved x t) ss) (same-at_slot w (moved x t) ss) alone
Alone-after (adds w size bytes last) t ss fresh alone = by (is_refusal t)
  where
    by : (b : Bool) → Alone (if b then ss else ss ++ (w, added size bytes last) ∷ [])
    by true = alone
    by false = Alone-push w (added size bytes last) ss alone fresh
Alone-after (drops w) t ss fresh alone = by (is_refusal t)
  where
    by : (b : Bool) → Alone (if b then ss else remove_entry (nat_eq w) ss)
    by true = alone
    by false = Alone-removed (nat_eq w) ss alone
Alone-after to_none t ss fresh alone = alone

Alone-noted : (named : Option (ℕ × What)) (t : ReplyValue) (ss : SubscriberSlots) → Alone ss → Alone (slots_noted named t ss)
Alone-noted None t ss alone = alone
Alone-noted (Some n) t ss alone = Alone-same ss (at_slot n.0 (with_note (n.1, code_of t)) ss) (same-at_slot n.0 (with_note (n.1, code_of t)) ss) alone

pub Alone-next : (S : SharedMachine) (e : GatewayEvent) (a : Answer) → Alone S.subs → Alone (next S e a).subs
Alone-next S e (tells t) alone =
    Alone-noted (names e) t (slots_after (target S e) t S.subs) (Alone-after (target S e) t S.subs (fresh_reach S e) alone)
Alone-next S e (sub_counts s) alone = alone
Alone-next S e (pmu_counts s) alone = alone
Alone-next S e (those_waiting us) alone = alone
Alone-next S e (entry found) alone = alone
Alone-next S e (stands s) alone = alone

private_run-append : (o : Option Model) (xs ys : List ViewEvent) → private_run o (xs ++ ys) ≡ private_run (private_run o xs) ys
private_run-append o [] ys = refl
private_run-append o (x ∷ xs) ys = private_run-append (private_step o x) xs ys

-- any events
pub own-run : (u : ℕ) (S : SharedMachine) (es : List GatewayEvent) → Alone S.subs → own_of u (shared_run S es) ≡ private_run (own_of u S) (view u S es)
own-run u S [] alone = refl
own-run u S (e ∷ es) alone =
    let rest = own-run u (shared_step S e) es (Alone-next S e (full_answer S e) alone) in
    rest ∙ ap (λ o. private_run o (view u (shared_step S e) es)) (own-step u S e alone) ∙ sym (private_run-append (own_of u S) (part u S e) (view u (shared_step S e) es))
