-- Whole runs and histories.
use Rattle.std.proofs.Common.{◌≡◌, ℕ, Bool, true, false, List, [], ◌∷◌, ◌++◌, filter, map, Option, Some, None, refl, sym, ap, subst, ◌∙◌}
use Rattle.std.specs.Prelude.{is_some, not, if◌then◌else◌}
use Rattle.pg_wire.specs.declared.refusal.Refusal.TheVariants.{NoSuchSub}
use Rattle.pg_session.specs.Private.{refuse}
use Rattle.pg_entitle.specs.Grants.{has_key}
use Rattle.pg_data.specs.Measurements.{Measurement}
use Rattle.pg_session.specs.Events.{SubscriberEvent, Sample}
use Rattle.pg_session.specs.Shown.{Model}
use Rattle.pg_session.specs.declared.standing.MemberPlace.{MemberPlace}
use Rattle.pg_session.specs.Standing.{standing_of}
use Rattle.pg_gateway.specs.GatewayEvents.{GatewayEvent, gateway_event, told, asks, measure, stats, standing, Answer, tells, sub_counts, stands, inquires}
use Rattle.pg_gateway.specs.Sharing.{SubscriberSlot, measures, some_measured}
use Rattle.pg_gateway.specs.State.{SharedMachine, opening, slot_of, own_of, taken_in, refusal, to_all, unless, stats_answer, standing_answer, May, next}
use Rattle.pg_gateway.specs.Views.{shared_step, shared_run, private_run, as_seen, share_seen, part_of, part, view, full_told, full_by, full_answer, full_answers, AllLossless, handed_to, handed_in}
use Rattle.pg_gateway.specs.Shown.{GatewayValue, GatewayShows, Goes}
use Rattle.pg_gateway.specs.declared.event.Event.{Event}
use Rattle.pg_gateway.specs.declared.event.Reply.{Reply}
use Rattle.pg_gateway.specs.Posting.{Answers}
use Rattle.pg_gateway.specs.Histories.{Legal, state_after, ShowsHistory, said, ShowsCalls, MayCall}
use Rattle.pg_gateway.specs.Laws.{after, granted_blocks, AgreeOn, events_of, answers_of}
use Rattle.pg_gateway.proofs.SlotLaws.{owned, Alone}
use Rattle.pg_gateway.proofs.ViewLaws.{full_own, own_full, Alone-next, own-step, own-run}
use Rattle.pg_gateway.proofs.AnswerLaws.{lossless_full, handed-run}

pub Alone-run : (S : SharedMachine) (es : List GatewayEvent) → Alone S.subs → Alone (shared_run S es).subs
Alone-run S [] alone = alone
Alone-run S (e ∷ es) alone = Alone-run (shared_step S e) es (Alone-next S e (full_answer S e) alone)

run-append : (S : SharedMachine) (es fs : List GatewayEvent) → shared_run S (es ++ fs) ≡ shared_run (shared_run S es) fs
run-append S [] fs = refl
run-append S (e ∷ es) fs = run-append (shared_step S e) es fs

pub one_more : (u : ℕ) (es : List GatewayEvent) (e : GatewayEvent) → own_of u (after (es ++ e ∷ [])) ≡ private_run (own_of u (after es)) (part u (after es) e)
one_more u es e = ap (λ S. own_of u S) (run-append opening es (e ∷ [])) ∙ own-step u (after es) e (Alone-run opening es tt)

-- what is there of a subscriber that is there
slot_from : (o : Option SubscriberSlot) (p : Model) → owned o ≡ Some p → (s : SubscriberSlot) × (o ≡ Some s) × (s.own ≡ p)
slot_from None p is = cc
slot_from (Some s) p is = (s, refl, some_is s.own p is)
  where
    some_is : (a b : Model) → Some a ≡ Some b → a ≡ b
    some_is a b e = cc

pub own_reply : (u : ℕ) (S : SharedMachine) (x : SubscriberEvent) (p : Model) → own_of u S ≡ Some p → full_answer S (asks u x) ≡ tells (full_told p x)
own_reply u S x p is =
    let found = slot_from (slot_of u S.subs) p is in
    own_full (slot_of u S.subs) x ∙ ap (λ o. tells (full_own o x)) found.1 ∙ ap (λ q. tells (full_told q x)) found.2

pub own_counters : (u : ℕ) (S : SharedMachine) (p : Model) → own_of u S ≡ Some p → full_answer S (inquires (stats u)) ≡ sub_counts p.output.stats
own_counters u S p is =
    let found = slot_from (slot_of u S.subs) p is in
    ap (λ o. full_by (refuse (not (is_some o)) NoSuchSub None) (stats_answer o)) found.1 ∙ ap (λ (q : Model). sub_counts q.output.stats) found.2

pub own_standing : (u : ℕ) (place : MemberPlace) (S : SharedMachine) (p : Model) → own_of u S ≡ Some p → full_answer S (inquires (standing u place)) ≡ stands (standing_of p place)
own_standing u place S p is =
    let found = slot_from (slot_of u S.subs) p is in
    ap (λ o. full_by (refuse (not (is_some o)) NoSuchSub None) (standing_answer o place)) found.1 ∙ ap (λ (q : Model). stands (standing_of q place)) found.2

pub equal_states : (u : ℕ) (es fs : List GatewayEvent) → view u opening es ≡ view u opening fs → own_of u (after es) ≡ own_of u (after fs)
equal_states u es fs same = own-run u opening es tt ∙ ap (λ v. private_run None v) same ∙ sym (own-run u opening fs tt)

pub equal_handed : (u : ℕ) (es fs : List GatewayEvent) → view u opening es ≡ view u opening fs
    → handed_to u es (full_answers opening es) ≡ handed_to u fs (full_answers opening fs)
equal_handed u es fs same = handed-run u opening es tt ∙ ap (λ v. handed_in None v) same ∙ sym (handed-run u opening fs tt)

pub equal_parts : (u : ℕ) (es fs : List GatewayEvent) (e f : GatewayEvent) → own_of u (after es) ≡ own_of u (after fs)
    → part u (after es) e ≡ part u (after fs) f → own_of u (after (es ++ e ∷ [])) ≡ own_of u (after (fs ++ f ∷ []))
equal_parts u es fs e f own same =
    one_more u es e ∙ ap (λ o. private_run o (part u (after es) e)) own ∙ ap (λ v. private_run (own_of u (after fs)) v) same ∙ sym (one_more u fs f)

-- a filter of what passed it drops nothing
filter_twice : (test : Sample → Bool) (xs : List Sample) → filter test (filter test xs) ≡ filter test xs
filter_twice test [] = refl
filter_twice test (x ∷ xs) = by (test x) refl (filter_twice test xs)
  where
    by : (b : Bool) → test x ≡ b → filter test (filter test xs) ≡ filter test xs → filter test (if b then x ∷ filter test xs else filter test xs) ≡ (if b then x ∷ filter test xs else filter test xs)
    by true is rest = rw is (ap (λ l. x ∷ l) rest)
    by false is rest = rest

-- a subscriber's part of a measurement is of its granted blocks alone
part_blocks : (o : Option Model) (soc quality frac : ℕ) (taken : List Sample)
    → share_seen (measures soc quality frac taken) o ≡ share_seen (measures soc quality frac (granted_blocks o taken)) o
part_blocks None soc quality frac taken = refl
part_blocks (Some p) soc quality frac taken = ap (λ l. as_seen (some_measured soc quality frac l)) (sym (filter_twice (λ s. has_key p.grants s.key) taken))

part_measure : (u : ℕ) (S : SharedMachine) (m : Measurement) → refusal S (measure m) ≡ None
    → part u S (measure m) ≡ share_seen (measures m.soc m.quality m.frac (granted_blocks (own_of u S) (taken_in S m))) (own_of u S)
part_measure u S m none =
    ap (λ r. part_of u (own_of u S) (unless r (to_all (measures m.soc m.quality m.frac (taken_in S m))))) none
    ∙ part_blocks (own_of u S) m.soc m.quality m.frac (taken_in S m)

pub agreeing_parts : (u : ℕ) (S T : SharedMachine) (m n : Measurement) → own_of u S ≡ own_of u T
    → refusal S (measure m) ≡ None → refusal T (measure n) ≡ None → AgreeOn u S m T n → part u S (measure m) ≡ part u T (measure n)
agreeing_parts u S T m n own first other agree =
    part_measure u S m first
    ∙ ap (λ soc. share_seen (measures soc m.quality m.frac (granted_blocks (own_of u S) (taken_in S m))) (own_of u S)) agree.soc
    ∙ ap (λ quality. share_seen (measures n.soc quality m.frac (granted_blocks (own_of u S) (taken_in S m))) (own_of u S)) agree.quality
    ∙ ap (λ frac. share_seen (measures n.soc n.quality frac (granted_blocks (own_of u S) (taken_in S m))) (own_of u S)) agree.frac
    ∙ ap (λ blocks. share_seen (measures n.soc n.quality n.frac blocks) (own_of u S)) agree.blocks
    ∙ ap (λ o. share_seen (measures n.soc n.quality n.frac (granted_blocks (own_of u T) (taken_in T n))) o) own
    ∙ sym (part_measure u T n other)

pub equal_frames : (u : ℕ) (es fs : List GatewayEvent) (m n : Measurement) → own_of u (after es) ≡ own_of u (after fs)
    → refusal (after es) (measure m) ≡ None → refusal (after fs) (measure n) ≡ None → AgreeOn u (after es) m (after fs) n
    → own_of u (after (es ++ measure m ∷ [])) ≡ own_of u (after (fs ++ measure n ∷ []))
equal_frames u es fs m n own first other agree =
    equal_parts u es fs (measure m) (measure n) own (agreeing_parts u (after es) (after fs) m n own first other agree)

-- histories
pub full_history : (S : SharedMachine) (h : List (GatewayEvent × Answer)) → Legal S h → AllLossless (answers_of h)
    → (answers_of h ≡ full_answers S (events_of h)) × (state_after S h ≡ shared_run S (events_of h))
full_history S [] legal full = (refl, refl)
full_history S (x ∷ h) legal full =
    let is = lossless_full S x.0 x.1 legal.0 full.0 in
    let same : next S x.0 x.1 ≡ shared_step S x.0 = ap (λ a. next S x.0 a) is in
    let rest = full_history (shared_step S x.0) h (subst (λ T. Legal T h) same legal.1) full.1 in (
      ap (λ a. a ∷ answers_of h) is ∙ ap (λ answers. full_answer S x.0 ∷ answers) rest.0,
      ap (λ T. state_after T h) same ∙ rest.1,
    )

legal-append : (S : SharedMachine) (h : List (GatewayEvent × Answer)) (e : GatewayEvent) (a : Answer) → Legal S h → May (state_after S h) e a → Legal S (h ++ (e, a) ∷ [])
legal-append S [] e a legal may = (may, tt)
legal-append S (x ∷ h) e a legal may = (legal.0, legal-append (next S x.0 x.1) h e a legal.1 may)

state-append : (S : SharedMachine) (h : List (GatewayEvent × Answer)) (e : GatewayEvent) (a : Answer) → state_after S (h ++ (e, a) ∷ []) ≡ next (state_after S h) e a
state-append S [] e a = refl
state-append S (x ∷ h) e a = state-append (next S x.0 x.1) h e a

-- one step more
pub history_goes : (old new : GatewayValue) (e : GatewayEvent) (a : Answer) (h : List (GatewayEvent × Answer)) → Goes old e a new → ShowsHistory old h
    → May (state_after opening h) e a × ShowsHistory new (h ++ (e, a) ∷ [])
history_goes old new e a h goes shown =
    let one = goes (state_after opening h) shown.shows in (
      one.may,
      record {
        legal = legal-append opening h e a shown.legal one.may;
        shows = subst (λ S. GatewayShows new S) (sym (state-append opening h e a)) one.shows;
      },
    )

-- the same for calls
said-append : (calls : List (Event × Reply)) (e : Event) (r : Reply) → map said (calls ++ (e, r) ∷ []) ≡ map said calls ++ (gateway_event e, told r) ∷ []
said-append [] e r = refl
said-append (x ∷ calls) e r = ap (λ l. said x ∷ l) (said-append calls e r)

pub calls_go : (old new : GatewayValue) (e : Event) (r : Reply) (calls : List (Event × Reply)) → Goes old (gateway_event e) (told r) new → Answers e r → ShowsCalls old calls
    → MayCall calls e r × ShowsCalls new (calls ++ (e, r) ∷ [])
calls_go old new e r calls goes answers shown =
    let one = history_goes old new (gateway_event e) (told r) (map said calls) goes shown in (
      record { may = one.0; answers = answers },
      subst (λ h. ShowsHistory new h) (sym (said-append calls e r)) one.1,
    )
