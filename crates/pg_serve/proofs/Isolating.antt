-- The events of all turns are one legal history; where none of its answers tells a loss, each subscriber goes by its view alone.
use Rattle.std.proofs.Common.{◌≡◌, ℕ, nat_eq, is_some, List, [], ◌∷◌, ◌++◌, Option, Some, None, option_map, refl, sym, ap, ◌∙◌, subst}
use Rattle.std.specs.Map.{lookup}
use Rattle.std.proofs.lemmas.List.{map-append}
use Rattle.pg_session.specs.Shown.{Model}
use Rattle.pg_session.specs.Commands.{Hearing, items_of, session_stats}
use Rattle.pg_ingest.specs.Items.{told_of}
use Rattle.pg_ingest.specs.Linking.{link_stats}
use Rattle.pg_serve.specs.declared.source_link.SourceLink.{SourceLink}
use Rattle.pg_gateway.specs.GatewayEvents.{GatewayEvent, measure, Answer}
use Rattle.pg_gateway.specs.State.{SharedMachine, opening as shared_opening, own_of}
use Rattle.pg_gateway.specs.Sharing.{SubscriberSlot}
use Rattle.pg_gateway.specs.Histories.{Legal, state_after}
use Rattle.pg_gateway.specs.Laws.{events_of, answers_of, after}
use Rattle.pg_gateway.specs.Views as views
use Rattle.pg_gateway.specs.Views.{shared_step, shared_run, view, private_run, handed_to, handed_in}
use Rattle.pg_gateway.specs.Shown.{SlotValue, SlotShows}
use Rattle.pg_gateway.proofs.RelatedLaws.{Related-lookup, Both}
use Rattle.pg_gateway.proofs.ViewLaws.{own-run}
use Rattle.pg_gateway.proofs.AnswerLaws.{handed-run}
use Rattle.pg_gateway.proofs.RunLaws.{Alone-run, full_history, equal_states, equal_frames}
use Rattle.pg_serve.specs.Inputs.{InputValue, Outcome}
use Rattle.pg_serve.specs.Actions.{Effect, answered, ignored_frame, closed_at, refused, notes_of, pairs_of}
use Rattle.pg_serve.specs.WorldStates.{SourceLinkPast, WorldState, opening, has_source, Turns, LegalTurns, after_turn, after_turns, all_outcomes, history_of}
use Rattle.pg_serve.specs.Shown.{SourceLinkShows, SessionShows, WorldValue, link_counted, session_counted}
use Rattle.pg_serve.specs.Full.{full_turns, events_made, full_outcomes, handed_over, view_of, queue_of, world_state_of, events_at, link_counts_of, session_counts_of, is_connected, InputsIsolate, SharedFrame}
use Rattle.pg_serve.specs.Headline.{NotesLossless, OutcomesLossless, HasAnswered, Headline}
use Rattle.pg_serve.specs.OwnStates.{OwnShows, OwnStates}
use Rattle.pg_shared.proofs.Opening.{state_after-append}
use Rattle.pg_serve.proofs.Doing.{Legal-append}
use Rattle.pg_serve.proofs.Determined.{IsFull, full_lookup, lines_are_full, turns_are_full, answers_are_full, state_is_full, events-more}
use Rattle.pg_serve.proofs.Belonging.{belongs}
use Rattle.pg_serve.proofs.Handing.{outputs_hand}

history_state : (m : WorldState) (ts : Turns) → state_after m.shared (history_of ts) ≡ (after_turns m ts).shared
history_state m [] = refl
history_state m (t ∷ ts) = state_after-append m.shared (pairs_of t.effects) (history_of ts) ∙ history_state (after_turn m t) ts

history_legal : (m : WorldState) (ts : Turns) → LegalTurns m ts → Legal m.shared (history_of ts)
history_legal m [] legal = tt
history_legal m (t ∷ ts) legal = Legal-append m.shared (pairs_of t.effects) (history_of ts) legal.0.legal (history_legal (after_turn m t) ts legal.1)

lossless-append : (xs ys : List Answer) → views.AllLossless xs → views.AllLossless ys → views.AllLossless (xs ++ ys)
lossless-append [] ys h k = k
lossless-append (x ∷ xs) ys h k = (h.0, lossless-append xs ys h.1 k)

effects_lossless : (effects : List Effect) → NotesLossless (notes_of effects) → views.AllLossless (answers_of (pairs_of effects))
effects_lossless [] h = tt
effects_lossless (answered e a ∷ effects) h = (h.0, effects_lossless effects h.1)
effects_lossless (ignored_frame r ∷ effects) h = effects_lossless effects h.1
effects_lossless (closed_at r ∷ effects) h = effects_lossless effects h
effects_lossless (refused r ∷ effects) h = effects_lossless effects h.1

turns_lossless : (m : WorldState) (ts : Turns) → OutcomesLossless (all_outcomes m ts) → views.AllLossless (answers_of (history_of ts))
turns_lossless m [] h = tt
turns_lossless m (t ∷ ts) h =
    subst views.AllLossless (sym (map-append _ (pairs_of t.effects) (history_of ts)))
    (lossless-append (answers_of (pairs_of t.effects)) (answers_of (history_of ts)) (effects_lossless t.effects h.0) (turns_lossless (after_turn m t) ts h.1))

own_shows : (o : Option SlotValue) (p : Option SubscriberSlot) → Both SlotShows o p → OwnShows o (option_map (λ s. s.own) p)
own_shows None None b = tt
own_shows (Some v) (Some s) b = b.subscriber
own_shows None (Some s) b = absurd b
own_shows (Some v) None b = absurd b

queue_own : (o : Option SlotValue) (p : Option Model) → OwnShows o p → option_map (λ v. v.subscriber.own.output.queue) o ≡ queue_of p
queue_own None None h = refl
queue_own (Some v) (Some p) h = ap Some h.queue.same
queue_own None (Some p) h = absurd h
queue_own (Some v) None h = absurd h

handed_made : (inputs : List InputValue) (u : ℕ) → handed_over u inputs (full_outcomes inputs) ≡ handed_in None (view_of u inputs)
handed_made inputs u =
    outputs_hand u inputs ∙ ap (handed_to u (events_made inputs)) (answers_are_full inputs) ∙ handed-run u shared_opening (events_made inputs) tt

pub inputs_isolate : InputsIsolate
inputs_isolate = record {
  states = λ u is js same. equal_states u (events_made is) (events_made js) same;
  queued = λ u is js same. ap queue_of (equal_states u (events_made is) (events_made js) same);
  handed = λ u is js same. handed_made is u ∙ ap (handed_in None) same ∙ sym (handed_made js u);
}

-- what links and sessions count
link_counts : (o : Option SourceLink) (p : Option SourceLinkPast) → Both SourceLinkShows o p → ((line : SourceLinkPast) → p ≡ Some line → IsFull line)
    → option_map (λ line. line.link.stats) o ≡ option_map (λ line. link_stats (line.link.earlier ++ told_of line.link.source line.link.stream)) p
link_counts None None b full = refl
link_counts (Some v) (Some line) b full = ap Some (b.shows.stats ∙ ap (λ items. link_stats (line.link.earlier ++ items)) (full line refl).all)
link_counts None (Some line) b full = absurd b
link_counts (Some v) None b full = absurd b

session_counts : (o : Option Hearing) (p : Option (List ℕ)) → Both SessionShows o p
    → option_map (λ hearing. hearing.stats) o ≡ option_map (λ stream. session_stats (items_of stream)) p
session_counts None None b = refl
session_counts (Some v) (Some stream) b = ap Some b.shows.stats
session_counts None (Some stream) b = absurd b
session_counts (Some v) None b = absurd b

some_map : {A B : Type 0} (f : A → B) (o : Option A) → is_some (option_map f o) ≡ is_some o
some_map f None = refl
some_map f (Some x) = refl

shared_is : (inputs : List InputValue) → (world_state_of inputs).shared ≡ after (events_made inputs)
shared_is inputs = sym (history_state opening (full_turns opening inputs)) ∙ state_is_full inputs

pub owned : (w : WorldValue) (inputs : List InputValue) (told : List Outcome) → OutcomesLossless told → HasAnswered w inputs told → OwnStates w inputs
owned w inputs told lossless has =
    let turns = has.turns in
    let so = subst OutcomesLossless has.outcomes lossless in
    let all : turns ≡ full_turns opening inputs = turns_are_full turns has.shows.legal so ∙ ap (full_turns opening) has.taken in
    let history = history_of turns in
    let full = full_history shared_opening history (history_legal opening turns has.shows.legal) (turns_lossless opening turns so) in
    let same : (after_turns opening turns).shared ≡ after (events_of history) = sym (history_state opening turns) ∙ full.1 in
    record {
      own =
          λ u. subst (λ ts. OwnShows (lookup (nat_eq u) w.gateway.subs) (private_run None (view u shared_opening (events_of (history_of ts))))) all
          (subst (OwnShows (lookup (nat_eq u) w.gateway.subs)) (ap (own_of u) same ∙ own-run u shared_opening (events_of history) tt)
          (own_shows (lookup (nat_eq u) w.gateway.subs) (lookup (nat_eq u) (after_turns opening turns).shared.subs)
          (Related-lookup SlotShows (nat_eq u) w.gateway.subs (after_turns opening turns).shared.subs has.shows.shows.gateway.subs)));
    }

pub isolated : (w : WorldValue) (inputs : List InputValue) (told : List Outcome) → OutcomesLossless told → HasAnswered w inputs told → Headline w inputs told
isolated w inputs told lossless has =
    let turns = has.turns in
    let so = subst OutcomesLossless has.outcomes lossless in
    let all : turns ≡ full_turns opening inputs = turns_are_full turns has.shows.legal so ∙ ap (full_turns opening) has.taken in
    let own : OwnStates w inputs = owned w inputs told lossless has in
    let links : (s : ℕ) → link_counted s w ≡ link_counts_of s inputs =
    λ s. link_counts (lookup (nat_eq s) w.lines) (lookup (nat_eq s) (after_turns opening turns).lines)
    (Related-lookup SourceLinkShows (nat_eq s) w.lines (after_turns opening turns).lines has.shows.shows.lines)
    (λ line found. full_lookup (nat_eq s) (after_turns opening turns).lines line (lines_are_full turns has.shows.legal so) found)
    ∙ ap (λ ts. option_map (λ line. link_stats (line.link.earlier ++ told_of line.link.source line.link.stream)) (lookup (nat_eq s) (after_turns opening ts).lines)) all in
    let sessions : (u : ℕ) → session_counted u w ≡ session_counts_of u inputs =
    λ u. session_counts (lookup (nat_eq u) w.sessions) (lookup (nat_eq u) (after_turns opening turns).fed)
    (Related-lookup SessionShows (nat_eq u) w.sessions (after_turns opening turns).fed has.shows.shows.sessions)
    ∙ ap (λ ts. option_map (λ stream. session_stats (items_of stream)) (lookup (nat_eq u) (after_turns opening ts).fed)) all in
    let answered : told ≡ full_outcomes inputs = has.outcomes ∙ ap (all_outcomes opening) all in
    let there = belongs inputs in
    record {
      queued = λ u. queue_own (lookup (nat_eq u) w.gateway.subs) (private_run None (view_of u inputs)) (own.own u);
      handed = λ u. ap (handed_over u inputs) answered ∙ handed_made inputs u;
      outcomes = answered;
      links = links;
      sessions = sessions;
      registered = λ s. ap is_some (links s) ∙ some_map _ (lookup (nat_eq s) (world_state_of inputs).lines) ∙ there.lines s ∙ ap (λ S. has_source S s) (shared_is inputs);
      connected = λ u. ap is_some (sessions u) ∙ some_map _ (lookup (nat_eq u) (world_state_of inputs).fed) ∙ there.fed u
          ∙ ap (λ S. is_connected (own_of u S)) (shared_is inputs) ∙ ap is_connected (own-run u shared_opening (events_made inputs) tt);
    }

-- ---- of a shared frame each has its granted blocks alone

run-more : (S : SharedMachine) (es fs : List GatewayEvent) → shared_run S (es ++ fs) ≡ shared_run (shared_run S es) fs
run-more S [] fs = refl
run-more S (e ∷ es) fs = run-more (shared_step S e) es fs

own-more : (u : ℕ) (es fs : List GatewayEvent) → own_of u (after (es ++ fs)) ≡ private_run (own_of u (after es)) (view u (after es) fs)
own-more u es fs = ap (own_of u) (run-more shared_opening es fs) ∙ own-run u (after es) fs (Alone-run shared_opening es tt)

own_at : (u : ℕ) (inputs : List InputValue) (f : InputValue) (events : List GatewayEvent) → events_at inputs f ≡ events
    → own_of u (after (events_made (inputs ++ f ∷ []))) ≡ own_of u (after (events_made inputs ++ events))
own_at u inputs f events is = ap (λ es. own_of u (after es)) (events-more inputs f ∙ ap (λ es. events_made inputs ++ es) is)

pub shared_frame : SharedFrame
shared_frame = record {
  parts = λ u is js f g own same.
      own_at u is f (events_at is f) refl ∙ own-more u (events_made is) (events_at is f)
      ∙ ap (λ o. private_run o (view u (after (events_made is)) (events_at is f))) own
      ∙ ap (private_run (own_of u (after (events_made js)))) same
      ∙ sym (own_at u js g (events_at js g) refl ∙ own-more u (events_made js) (events_at js g));
  frames = λ u is js f g m n own first other may may' agree.
      own_at u is f (measure m ∷ []) first
      ∙ equal_frames u (events_made is) (events_made js) m n own may may' agree
      ∙ sym (own_at u js g (measure n ∷ []) other);
}
