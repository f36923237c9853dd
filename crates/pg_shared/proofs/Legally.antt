-- The calls of a shared gateway as a legal history, and what is handed out in it.
use Rattle.std.proofs.Common.{◌≡◌, ℕ, List, [], ◌∷◌, ◌++◌, length, Some, sym, ap, ◌∙◌, subst, append_assoc}
use Rattle.std.proofs.lemmas.List.{append-nil, map-append}
use Rattle.pg_turn.specs.Known.{Known}
use Rattle.pg_turn.specs.Turns.{IsLegalAfter, IsLegal, Called}
use Rattle.pg_turn.specs.Placed.{PlacedCall}
use Rattle.pg_gateway.specs.declared.event.Event.{Event}
use Rattle.pg_gateway.specs.declared.event.Reply.{Reply}
use Rattle.pg_gateway.specs.GatewayEvents.{GatewayEvent, gateway_event, asks, Answer, told}
use Rattle.pg_gateway.specs.State.{SharedMachine, opening, own_of, May, next}
use Rattle.pg_gateway.specs.Histories.{Legal, state_after, said, MayCall}
use Rattle.pg_gateway.specs.Laws.{events_of, answers_of, after}
use Rattle.pg_gateway.specs.Views.{Lossless, AllLossless, handed_to, full_answer}
use Rattle.pg_gateway.proofs.ViewLaws.{own-run}
use Rattle.pg_gateway.proofs.AnswerLaws.{handed-run, lossless_full}
use Rattle.pg_gateway.proofs.RunLaws.{full_history, own_reply}
use Rattle.pg_shared.specs.Sharing.{Call, AreAnswered, history_of, PostedCall, IsLastPlace, HandsByViews, AnswersByView}
use Rattle.pg_shared.proofs.Opening.{state_after-append}

-- the state after one call more
state_more : (calls : List Call) (x : Call)
    → state_after opening (history_of (calls ++ x ∷ []))
    ≡ next (state_after opening (history_of calls)) (gateway_event x.0) (told x.1)
state_more calls x = ap (λ h. state_after opening h) (map-append said calls (x ∷ []))
    ∙ state_after-append opening (history_of calls) (said x ∷ [])

legal_after : (before calls : List Call) → IsLegalAfter MayCall before calls
    → Legal (state_after opening (history_of before)) (history_of calls)
legal_after before [] legal = tt
legal_after before (x ∷ calls) legal =
    let rest = legal_after (before ++ x ∷ []) calls legal.1 in
    (legal.0.may, subst (λ S. Legal S (history_of calls)) (state_more before x) rest)

-- calls that the turnstile has as legal are so for the gateway
pub legal_calls : (calls : List Call) → IsLegal MayCall calls → Legal opening (history_of calls)
legal_calls calls legal = legal_after [] calls legal

last_after : (before calls : List Call) (x : Call) → IsLegalAfter MayCall before (calls ++ x ∷ [])
    → MayCall (before ++ calls) x.0 x.1
last_after before [] x legal = subst (λ h. MayCall h x.0 x.1) (sym (append-nil before)) legal.0
last_after before (y ∷ calls) x legal = subst (λ h. MayCall h x.0 x.1) (append_assoc before (y ∷ []) calls)
    (last_after (before ++ y ∷ []) calls x legal.1)

-- each call of a legal history is answered by its event's form
answered_after : (before calls : List Call) (x : Call) → IsLegalAfter MayCall before (calls ++ x ∷ []) → AreAnswered calls
answered_after before [] x legal = tt
answered_after before (y ∷ calls) x legal = (legal.0.answers, answered_after (before ++ y ∷ []) calls x legal.1)

-- and so those behind the first ones
answered_behind : (before first calls : List Call) (x : Call) → IsLegalAfter MayCall before ((first ++ calls) ++ x ∷ []) → AreAnswered calls
answered_behind before [] calls x legal = answered_after before calls x legal
answered_behind before (y ∷ first) calls x legal = answered_behind (before ++ y ∷ []) first calls x legal.1

pub posts : (v : Known Event Reply) (e : Event) (r : Reply) (w : Known Event Reply) → Called MayCall v e r w → PostedCall v e r w
posts v e r w called =
    let last = last_after [] (v.seen ++ called.0) (e, r) (subst (λ h. IsLegal MayCall h) called.1 called.3) in record {
      between = called.0;
      seen = called.1;
      own = called.2;
      others = called.4;
      legal = legal_calls w.seen called.3;
      may = last.may;
      answers = last.answers;
      between_answers = answered_behind [] v.seen called.0 (e, r) (subst (λ h. IsLegal MayCall h) called.1 called.3);
    }

-- and so with a call that tells its place
pub posts_placed : (v : Known Event Reply) (e : Event) (r : Reply) (number : ℕ) (w : Known Event Reply) → PlacedCall MayCall v e r number w → PostedCall v e r w
posts_placed v e r number w placed = posts v e r w (placed.between, placed.seen, placed.own, placed.legal, placed.others)

pub placed_last : (v : Known Event Reply) (e : Event) (r : Reply) (number : ℕ) (w : Known Event Reply) → PlacedCall MayCall v e r number w → IsLastPlace number w.own
placed_last v e r number w placed = (v.own, length (v.seen ++ placed.between), placed.own, placed.place)

pub hands_by_views : (h : List (GatewayEvent × Answer)) → Legal opening h → HandsByViews h
hands_by_views h legal full u = ap (λ answers. handed_to u (events_of h) answers) (full_history opening h legal full).0
    ∙ handed-run u opening (events_of h) tt

-- the parts of a legal history without loss, before its last call and at it
legal_front : (S : SharedMachine) (before : List (GatewayEvent × Answer)) (x : GatewayEvent × Answer) → Legal S (before ++ x ∷ [])
    → Legal S before × May (state_after S before) x.0 x.1
legal_front S [] x legal = (tt, legal.0)
legal_front S (y ∷ before) x legal = let rest = legal_front (next S y.0 y.1) before x legal.1 in ((legal.0, rest.0), rest.1)

lossless_front : (before : List (GatewayEvent × Answer)) (x : GatewayEvent × Answer) → AllLossless (answers_of (before ++ x ∷ []))
    → AllLossless (answers_of before) × Lossless x.1
lossless_front [] x full = (tt, full.0)
lossless_front (y ∷ before) x full = let rest = lossless_front before x full.1 in ((full.0, rest.0), rest.1)

pub answers_by_view : (h : List (GatewayEvent × Answer)) → Legal opening h → AnswersByView h
answers_by_view h legal before u x a p is full shows =
    let front = legal_front opening before (asks u x, a) (subst (λ l. Legal opening l) is legal) in
    let lossless = lossless_front before (asks u x, a) (subst (λ l. AllLossless (answers_of l)) is full) in
    let state = (full_history opening before front.0 lossless.0).1 in
    let own : own_of u (after (events_of before)) ≡ Some p = own-run u opening (events_of before) tt ∙ shows in
    lossless_full (state_after opening before) (asks u x) a front.1 lossless.1
    ∙ ap (λ S. full_answer S (asks u x)) state
    ∙ own_reply u (after (events_of before)) x p own
