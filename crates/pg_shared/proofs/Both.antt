-- Two sessions of services where a subscriber sees the same, and of one history.
use Rattle.std.proofs.Common.{◌≡◌, ◌≢◌, refl, sym, ap, ap₂, subst, ◌∙◌, ℕ, nat_eq, eqb-true, Bool, true, false, if◌then◌else◌, List, [], ◌∷◌, ◌++◌, append_assoc, Option, Some, None}
use Rattle.std.proofs.lemmas.Grind.{flat_map-append}
use Rattle.std.proofs.lemmas.List.{append-nil, append_cancel_left, map-append}
use mathlib.Core.List.{IsPrefix}
use Rattle.pg_wire.specs.declared.refusal.Refusal.{Refusal}
use Rattle.pg_turn.specs.Known.{Known}
use Rattle.pg_session.specs.Events as session
use Rattle.pg_session.specs.Events.{SubscriberEvent, drain}
use Rattle.pg_gateway.specs.declared.event.Event.{Event}
use Rattle.pg_gateway.specs.declared.event.Reply.{Reply}
use Rattle.pg_gateway.specs.GatewayEvents as gateway
use Rattle.pg_gateway.specs.GatewayEvents.{GatewayEvent, gateway_event, asks, tells}
use Rattle.pg_gateway.specs.Sharing.{SubscriberSlot}
use Rattle.pg_gateway.specs.State.{SharedMachine, opening, own_answer}
use Rattle.pg_gateway.specs.Histories.{said}
use Rattle.pg_gateway.specs.Laws.{after, answers_of}
use Rattle.pg_gateway.specs.Views.{Handed, handed_one, handed_out, handed_to, handed_in, full_by, full_answer, full_answers, private_run, shared_step, view, AllLossless}
use Rattle.pg_gateway.proofs.ViewLaws.{own-run}
use Rattle.pg_gateway.proofs.AnswerLaws.{handed-run}
use Rattle.pg_gateway.proofs.RunLaws.{Alone-run}
use Rattle.pg_shared.specs.Sharing.{Call, history_of}
use Rattle.pg_shared.specs.Onward.{Piece, calls_in}
use Rattle.pg_shared.specs.Delivery.{bytes_of, events_in, private_bytes, NoneDrains, Delivers}
use Rattle.pg_shared.specs.Both.{SeesAlike, DeliverAlike, DecidedByViews, DeliversIn}
use Rattle.pg_shared.proofs.Delivering.{events_more, view_more, lossless_split, private_both}

-- ---- where a subscriber sees the same

private_alike : (u : ℕ) (before since before' since' : List Call) → SeesAlike u before since before' since'
    → private_bytes u before since ≡ private_bytes u before' since'
private_alike u before since before' since' same = ap₂ (λ past seen. bytes_of (handed_in (private_run None past) seen)) same.0 same.1

pub deliver_alike : (u : ℕ) (s s' t t' : Known Event Reply) (left left' : List ℕ) (w w' x x' : Option (List ℕ))
    → Delivers u s s' [] left w w' → Delivers u t t' [] left' x x' → DeliverAlike u s s' t t' left left' w w' x x'
deliver_alike u s s' t t' left left' w w' x x' one other = record {
  one = one;
  other = other;
  alike = λ full own full' own' same.
      one.bytes full own ∙ private_alike u s.seen (calls_in one.since) t.seen (calls_in other.since) same ∙ sym (other.bytes full' own');
}

-- what u sees behind what it saw before
view_behind : (u : ℕ) (s s' : Known Event Reply) (since : List Piece) → s'.seen ≡ s.seen ++ calls_in since
    → view u opening (events_in s'.seen) ≡ view u opening (events_in s.seen) ++ view u (after (events_in s.seen)) (events_in (calls_in since))
view_behind u s s' since seen =
    ap (λ calls. view u opening (events_in calls)) seen ∙ ap (view u opening) (events_more s.seen (calls_in since))
    ∙ view_more u opening (events_in s.seen) (events_in (calls_in since))

pub decided_by_views : (u : ℕ) (s s' t t' : Known Event Reply) (left left' : List ℕ) (w w' x x' : Option (List ℕ))
    (one : Delivers u s s' [] left w w') (other : Delivers u t t' [] left' x x') → DecidedByViews u s s' t t' left left' w w' x x' one other
decided_by_views u s s' t t' left left' w w' x x' one other full own full' own' before whole =
    let mine = view u (after (events_in s.seen)) (events_in (calls_in one.since)) in
    let theirs = view u (after (events_in t.seen)) (events_in (calls_in other.since)) in
    let since : mine ≡ theirs = append_cancel_left (view u opening (events_in s.seen)) mine theirs
    (sym (view_behind u s s' one.since one.seen) ∙ whole ∙ view_behind u t t' other.since other.seen
    ∙ ap (λ xs. xs ++ theirs) (sym before)) in
    one.bytes full own ∙ private_alike u s.seen (calls_in one.since) t.seen (calls_in other.since) (before, since) ∙ sym (other.bytes full' own')

-- ---- where nobody drains a subscriber it is handed nothing

own_quiet : (o : Option Refusal) (seat : Option SubscriberSlot) (x : SubscriberEvent) (k : ℕ) → ((size : ℕ) → x ≢ drain size)
    → handed_out (full_by o (tells (own_answer seat x k))) ≡ []
own_quiet (Some r) seat x k free = refl
own_quiet None None x k free = refl
own_quiet None (Some s) (session.grant key config) k free = refl
own_quiet None (Some s) (session.revoke key) k free = refl
own_quiet None (Some s) (session.announce list) k free = refl
own_quiet None (Some s) (session.measure soc quality frac samples) k free = refl
own_quiet None (Some s) (session.define definition) k free = refl
own_quiet None (Some s) (session.remove number) k free = refl
own_quiet None (Some s) (session.tick soc) k free = refl
own_quiet None (Some s) session.connect k free = refl
own_quiet None (Some s) session.hangup k free = refl
own_quiet None (Some s) (session.command number word) k free = refl
own_quiet None (Some s) (session.drain size) k free = absurd (free size refl)

asked_quiet : (u w : ℕ) (l : List Handed) → (u ≡ w → l ≡ []) → bytes_of (if nat_eq u w then l else []) ≡ []
asked_quiet u w l none = by (nat_eq u w) refl
  where
    by : (b : Bool) → nat_eq u w ≡ b → bytes_of (if nat_eq u w then l else []) ≡ []
    by true is = ap (λ (b : Bool). bytes_of (if b then l else [])) is ∙ ap bytes_of (none (eqb-true u w is))
    by false is = ap (λ (b : Bool). bytes_of (if b then l else [])) is

full_quiet : (u : ℕ) (S : SharedMachine) (e : GatewayEvent) → ((size : ℕ) → e ≢ asks u (drain size)) → bytes_of (handed_one u e (full_answer S e)) ≡ []
full_quiet u S (gateway.asks w x) free =
    asked_quiet u w (handed_out (full_answer S (asks w x)))
    (λ same. own_quiet _ _ x _ (λ size is. free size (ap₂ (λ y z. asks y z) (sym same) is)))
full_quiet u S (gateway.add_pmu key) free = refl
full_quiet u S (gateway.drop_pmu key) free = refl
full_quiet u S (gateway.add_sub w size bytes) free = refl
full_quiet u S (gateway.drop_sub w) free = refl
full_quiet u S (gateway.grant w key) free = refl
full_quiet u S (gateway.announce config) free = refl
full_quiet u S (gateway.measure m) free = refl
full_quiet u S (gateway.tick soc) free = refl
full_quiet u S (gateway.inquires q) free = refl

all_quiet : (u : ℕ) (S : SharedMachine) (calls : List Call) → NoneDrains u (history_of calls)
    → bytes_of (handed_to u (events_in calls) (full_answers S (events_in calls))) ≡ []
all_quiet u S [] free = refl
all_quiet u S (x ∷ calls) free =
    let e = gateway_event x.0 in
    let later = shared_step S e in
    flat_map-append (λ (y : Handed). y.0) (handed_one u e (full_answer S e)) (handed_to u (events_in calls) (full_answers later (events_in calls)))
    ∙ ap₂ (λ y z. y ++ z) (full_quiet u S e free.0) (all_quiet u later calls free.1)

private_quiet : (u : ℕ) (before rest : List Call) → NoneDrains u (history_of rest) → private_bytes u before rest ≡ []
private_quiet u before rest free =
    let A = events_in before in
    let R = events_in rest in
    ap (λ o. bytes_of (handed_in o (view u (after A) R))) (sym (own-run u opening A tt))
    ∙ ap bytes_of (sym (handed-run u (after A) R (Alone-run opening A tt)))
    ∙ all_quiet u (after A) rest free

-- ---- a longer history

pub delivers_in : (history : List Call) (u : ℕ) (v v' : Known Event Reply) (left left' : List ℕ) (w w' : Option (List ℕ)) → IsPrefix v'.seen history
    → Delivers u v v' left left' w w' → DeliversIn history u v v' left left' w w'
delivers_in history u v v' left left' w w' begins h =
    let rest = begins.0 in
    let since = calls_in h.since in
    record {
      since = h.since;
      rest = rest;
      own = h.own;
      whole = sym begins.1 ∙ ap (λ l. l ++ rest) h.seen ∙ append_assoc v.seen since rest;
      out = h.out;
      wrote = h.wrote;
      bytes = λ full own none.
          let front : AllLossless (answers_of (history_of v'.seen)) =
          (lossless_split (history_of v'.seen) (history_of rest)
          (subst (λ c. AllLossless (answers_of c)) (ap history_of (sym begins.1) ∙ map-append said v'.seen rest) full)).0 in
          let whole : private_bytes u v.seen (since ++ rest) ≡ private_bytes u v.seen since =
          private_both u v.seen since rest ∙ ap (λ z. private_bytes u v.seen since ++ z) (private_quiet u (v.seen ++ since) rest none)
          ∙ append-nil (private_bytes u v.seen since) in
          h.bytes front own ∙ ap (λ z. left ++ z) (sym whole);
    }
