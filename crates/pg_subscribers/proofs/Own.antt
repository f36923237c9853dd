-- What is posted for one subscriber alone.
use Rattle.std.proofs.Common.{◌≡◌, subst, refl, ℕ, List, [], ◌∷◌, ◌++◌, map, Option, inl}
use Rattle.std.specs.Prelude.{All}
use Rattle.std.proofs.lemmas.List.Elements.{All-append, All-cons, All-nil}
use Rattle.pg_session.specs.Commands.{Hearing}
use Rattle.pg_gateway.specs.Posting.{Posted, Notes}
use Rattle.pg_ingest.specs.declared.run.End.{End}
use Rattle.pg_ingest.proofs.Known.{notes_nil, notes_more}
use Rattle.pg_shared.specs.Serving.{Call, subscriber_event_of, posted_by, Served}
use Rattle.pg_session.specs.Events.{SubscriberEvent}
use Rattle.pg_service.specs.Posts.{IsOf, OwnOnly, Asks}
use Rattle.pg_subscribers.specs.Endpoints.{HasHeard}

pub own_nil : (sub : ℕ) (o : Option (List Posted)) → OwnOnly sub o o
own_nil sub o = record { more = []; noted = notes_nil o; own = All-nil (IsOf sub) }

pub own_more : (sub : ℕ) (a b c : Option (List Posted)) → OwnOnly sub a b → OwnOnly sub b c → OwnOnly sub a c
own_more sub a b c h k = record { more = h.more ++ k.more; noted = notes_more a b c h.more k.more h.noted k.noted; own = All-append (IsOf sub) h.more k.more h.own k.own }

-- The same of the same subscriber.
pub own_as : (sub sub' : ℕ) (a b : Option (List Posted)) → sub ≡ sub' → OwnOnly sub a b → OwnOnly sub' a b
own_as sub sub' a b e h = subst (λ u. OwnOnly u a b) e h

pub own_one : (sub : ℕ) (a b : Option (List Posted)) (x : Posted) → Notes a b (x ∷ []) → IsOf sub x → OwnOnly sub a b
own_one sub a b x h k = record { more = x ∷ []; noted = h; own = All-cons (IsOf sub) x [] k (All-nil (IsOf sub)) }

pub asks_as : (sub sub' : ℕ) (h : SubscriberEvent) (a b : Option (List Posted)) → sub ≡ sub' → Asks sub h a b → Asks sub' h a b
asks_as sub sub' h a b e k = subst (λ u. Asks u h a b) e k

posted_own : (v : Hearing) (calls : List Call) → All (IsOf v.sub) (map (posted_by v) calls)
posted_own v [] = All-nil (IsOf v.sub)
posted_own v (call ∷ calls) = All-cons (IsOf v.sub) (posted_by v call) (map (posted_by v) calls) (inl (subscriber_event_of v.buffer call.0, refl)) (posted_own v calls)

-- A call of a session posts of its subscriber alone, and its session has heard something after it as before.
pub served_own : (end : End) (v v' : Hearing) (r r' w w' : Option (List ℕ)) (p p' : Option (List Posted)) → HasHeard v
    → Served end v v' r r' w w' p p' → OwnOnly v.sub p p'
served_own end v v' r r' w w' p p' h s = record { more = map (posted_by v) (s h.0 h.1 h.2).ran.calls; noted = (s h.0 h.1 h.2).ran.posted; own = posted_own v (s h.0 h.1 h.2).ran.calls }

pub served_heard : (end : End) (v v' : Hearing) (r r' w w' : Option (List ℕ)) (p p' : Option (List Posted)) → HasHeard v
    → Served end v v' r r' w w' p p' → HasHeard v'
served_heard end v v' r r' w w' p p' h s = (_, _, (s h.0 h.1 h.2).ran.shows)

pub served_sub : (end : End) (v v' : Hearing) (r r' w w' : Option (List ℕ)) (p p' : Option (List Posted)) → HasHeard v
    → Served end v v' r r' w w' p p' → v'.sub ≡ v.sub
served_sub end v v' r r' w w' p p' h s = (s h.0 h.1 h.2).ran.sub
