-- What a link tells over a seat, in one call and in several.
use Rattle.std.proofs.Common.{◌≡◌, refl, sym, ap, ap₂, subst, ◌∙◌, ℕ, true, List, [], ◌∷◌, ◌++◌, filter, map, reverse, append_assoc, Option, Some}
use Rattle.std.specs.List.{flat_map}
use Rattle.std.specs.Io.KnownBytes.{Consumes}
use Rattle.std.proofs.lemmas.Grind.{flat_map-append}
use Rattle.std.proofs.lemmas.List.{append-nil, map-append, append_cancel_left}
use Rattle.pg_turn.specs.Known.{Known}
use Rattle.pg_wire.specs.Split.{frames_in}
use Rattle.pg_gateway.specs.declared.event.Event.{Event}
use Rattle.pg_gateway.specs.declared.event.Reply.{Reply}
use Rattle.pg_gateway.specs.Histories.{said}
use Rattle.pg_gateway.specs.GatewayEvents.{GatewayEvent}
use Rattle.pg_ingest.specs.declared.run.End.{End}
use Rattle.pg_ingest.specs.Items.{Item, AreTold}
use Rattle.pg_ingest.specs.Commands.{asks, tells, told_in}
use Rattle.pg_ingest.specs.Linking.{Linking}
use Rattle.pg_ingest.specs.Shown.{LinkPast, ShowsLink, asked_again, told_before}
use Rattle.pg_ingest.proofs.Again.{again_told, again_all_told}
use Rattle.pg_ingest.specs.Runs.{Step, begins, reads, posts, stepping, after_steps, bytes_of, events_of, events_told, wires, event_posted}
use Rattle.pg_ingest.specs.Served.{IsFresh, IsCall}
use Rattle.pg_ingest.proofs.Known.{consumes_nil, consumes_more}
use Rattle.pg_ingest.proofs.Telling.{told_in-append}
use Rattle.pg_ingest.proofs.Stepping.{source_stays}
use Rattle.pg_shared.specs.Gates.{said_at}
use Rattle.pg_shared.specs.Onward.{GoesOn, Piece, calls_in, own_in}
use Rattle.pg_shared.specs.Continuing.{calls_more, owned_more}
use Rattle.pg_shared.specs.Telling.{Tells, HasTold}
use Rattle.pg_shared.proofs.Opening.{none_told}

-- a seat's gate takes all events
all_taken : (events : List GatewayEvent) → filter (λ o. true) events ≡ events
all_taken [] = refl
all_taken (o ∷ events) = ap (λ xs. o ∷ xs) (all_taken events)

pub tells_call : (end : End) (turns : ℕ) (s s' : Known Event Reply) (v v' : Linking) (r r' w w' : Option (List ℕ))
    → IsCall end turns v v' (wires r w (Some (said_at s.seen s.own)) (λ o. true)) (wires r' w' (Some (said_at s'.seen s'.own)) (λ o. true)) → GoesOn s s'
    → Tells v v' s s' r r'
tells_call end turns s s' v v' r r' w w' call on = λ past shows.
    let ran = (call.ran past shows).0 in
    let same : own_in on.pieces ≡ ran.calls = append_cancel_left (said_at s.seen s.own) (own_in on.pieces) ran.calls (sym on.said ∙ ran.posted) in
    record {
      since = on.pieces;
      seen = on.seen;
      own = on.own;
      steps = ran.steps;
      are = ran.are;
      shows = ran.shows;
      read = ran.read;
      events = ap (map event_posted) same ∙ ran.events ∙ all_taken (flat_map events_of ran.steps);
      all = (call.ran past shows).1.told;
    }

-- ---- several calls of a link

abbrev items_in : List Step → List Item
items_in [] = []
items_in (begins word ∷ steps) = items_in steps
items_in (reads piece ∷ steps) = items_in steps
items_in (posts item ∷ steps) = item ∷ items_in steps

events_are : (steps : List Step) → flat_map events_of steps ≡ flat_map events_told (items_in steps)
events_are [] = refl
events_are (begins word ∷ steps) = events_are steps
events_are (reads piece ∷ steps) = events_are steps
events_are (posts item ∷ steps) = ap (λ x. events_told item ++ x) (events_are steps)

stream_after : (past : LinkPast) (steps : List Step) → (after_steps past steps).stream ≡ past.stream ++ flat_map bytes_of steps
stream_after past [] = sym (append-nil past.stream)
stream_after past (begins word ∷ steps) = stream_after (stepping past (begins word)) steps
stream_after past (reads piece ∷ steps) =
    stream_after (stepping past (reads piece)) steps ∙ append_assoc past.stream piece (flat_map bytes_of steps)
stream_after past (posts item ∷ steps) = stream_after (stepping past (posts item)) steps

told_after : (past : LinkPast) (steps : List Step) → told_in (after_steps past steps).acts ≡ told_in past.acts ++ items_in steps
told_after past [] = sym (append-nil (told_in past.acts))
told_after past (begins word ∷ steps) =
    told_after (stepping past (begins word)) steps
    ∙ ap (λ x. x ++ items_in steps) (told_in-append past.acts (asks word ∷ []) ∙ append-nil (told_in past.acts))
told_after past (reads piece ∷ steps) = told_after (stepping past (reads piece)) steps
told_after past (posts item ∷ steps) =
    told_after (stepping past (posts item)) steps ∙ ap (λ x. x ++ items_in steps) (told_in-append past.acts (tells item ∷ []))
    ∙ append_assoc (told_in past.acts) (item ∷ []) (items_in steps)

pub tells_none : (v : Linking) (s : Known Event Reply) (r : Option (List ℕ)) (past : LinkPast) → ShowsLink v past → IsFresh past → HasTold past.source v s s r r
tells_none v s r past shows fresh = record {
  past = past;
  shows = shows;
  from = refl;
  all =
      subst (λ stream. AreTold past.source (reverse (frames_in stream)) (told_before past)) (sym fresh.0)
      (subst (λ acts. AreTold past.source (reverse (frames_in [])) (reverse (told_in acts))) (sym fresh.1) (none_told past.source));
  read = subst (λ stream. Consumes r r stream) (sym fresh.0) (consumes_nil r);
  since = [];
  seen = sym (append-nil s.seen);
  own = sym (append-nil s.own);
  events = ap (λ acts. flat_map events_told (told_in acts)) (sym fresh.1);
}

pub tells_more : (source : ℕ) (v v' : Linking) (s t x : Known Event Reply) (r r' r'' : Option (List ℕ)) → HasTold source v s t r r'
    → Tells v v' t x r' r'' → HasTold source v' s x r r''
tells_more source v v' s t x r r' r'' before call =
    let past = before.past in
    let one = call past before.shows in
    let items = flat_map-append events_told (told_in past.acts) (items_in one.steps) in
    record {
      past = after_steps past one.steps;
      shows = one.shows;
      from = source_stays past one.steps ∙ before.from;
      all = one.all;
      read = subst (λ stream. Consumes r r'' stream) (sym (stream_after past one.steps))
          (consumes_more r r' r'' past.stream (flat_map bytes_of one.steps) before.read one.read);
      since = before.since ++ one.since;
      seen = one.seen ∙ ap (λ z. z ++ calls_in one.since) before.seen ∙ append_assoc s.seen (calls_in before.since) (calls_in one.since)
          ∙ ap (λ z. s.seen ++ z) (sym (calls_more before.since one.since));
      own = owned_more s t x before.since one.since before.seen before.own one.own;
      events = ap (map event_posted) (map-append (λ (piece : Piece). said piece.1) before.since one.since)
          ∙ map-append event_posted (own_in before.since) (own_in one.since)
          ∙ ap₂ (λ y z. y ++ z) before.events (one.events ∙ events_are one.steps)
          ∙ sym items
          ∙ ap (flat_map events_told) (sym (told_after past one.steps));
    }

-- The source is asked again: what was told stays.
pub tells_again : (source : ℕ) (v v' : Linking) (s t : Known Event Reply) (r r' : Option (List ℕ)) → HasTold source v s t r r'
    → ((past : LinkPast) → ShowsLink v past → ShowsLink v' (asked_again past)) → HasTold source v' s t r r'
tells_again source v v' s t r r' told again = record {
  past = asked_again told.past;
  shows = again told.past told.shows;
  from = told.from;
  all = again_all_told told.past told.all;
  read = told.read;
  since = told.since;
  seen = told.seen;
  own = told.own;
  events = told.events ∙ ap (flat_map events_told) (sym (again_told told.past));
}
