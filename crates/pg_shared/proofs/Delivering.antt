-- What a session writes over a seat is what the private gateway of its subscriber's view hands out.
use Rattle.std.proofs.Common.{◌≡◌, ◌≢◌, ◌⊎◌, ⊎_elim, inl, inr, refl, sym, ap, ap₂, subst, ◌∙◌, ℕ, nat_eq, eq-eqb, eqb-true, Bool, true, false, if◌then◌else◌, List, [], ◌∷◌, ◌++◌, map, length, append_assoc, Option, Some, None}
use Rattle.std.specs.List.{flat_map}
use Rattle.std.proofs.lemmas.Grind.{flat_map-append}
use Rattle.std.proofs.lemmas.List.{append-nil, map-append, append_cancel_left}
use Rattle.pg_turn.specs.Known.{Known}
use Rattle.pg_command.specs.declared.command.Command.{Command}
use Rattle.pg_session.specs.Events.{drain}
use Rattle.pg_session.specs.Shown.{Model}
use Rattle.pg_session.specs.Private.{done, refused, handed}
use Rattle.pg_session.specs.Commands.{Hearing, Item, item_of, items_of, ShowsHearing}
use Rattle.pg_gateway.specs.declared.event.Event.{Event}
use Rattle.pg_gateway.specs.declared.event.Event.TheVariants as event
use Rattle.pg_gateway.specs.declared.event.Reply.{Reply}
use Rattle.pg_gateway.specs.declared.event.Reply.TheVariants as reply
use Rattle.pg_gateway.specs.GatewayEvents.{GatewayEvent, gateway_event, told, Answer, asks, tells, sub_counts, pmu_counts, entry, stands, those_waiting}
use Rattle.pg_gateway.specs.State.{SharedMachine, opening, own_of, next}
use Rattle.pg_gateway.specs.Histories.{Legal, state_after, said}
use Rattle.pg_gateway.specs.Laws.{after, events_of, answers_of}
use Rattle.pg_gateway.specs.Posting as posting
use Rattle.pg_gateway.specs.Posting.{Answers, IsPlain}
use Rattle.pg_gateway.specs.Views.{ViewEvent, Handed, handed_one, handed_out, handed_to, handed_at, handed_in, private_step, private_run, part, view, shared_step, shared_run, AllLossless}
use Rattle.pg_gateway.proofs.ViewLaws.{own-run}
use Rattle.pg_gateway.proofs.AnswerLaws.{handed-run}
use Rattle.pg_gateway.proofs.RunLaws.{full_history, Alone-run}
use Rattle.pg_ingest.specs.declared.run.End.{End}
use Rattle.pg_ingest.proofs.Known.{appends_nil, appends_more, consumes_nil, consumes_more}
use Rattle.pg_shared.specs.Gates.{said_at}
use Rattle.pg_shared.specs.Sharing.{Call, AreAnswered, history_of}
use Rattle.pg_shared.specs.Serving as loop
use Rattle.pg_shared.specs.Serving.{passes, drains, hangs_up, posted_by, handed_by, bytes_answered, command_in, passed_by, RanFrom, ServedFrom}
use Rattle.pg_shared.specs.Onward.{GoesOn, Piece, calls_in, own_in}
use Rattle.pg_shared.specs.Continuing.{calls_more, owned_more}
use Rattle.pg_shared.proofs.Opening.{no_frames}
use Rattle.pg_shared.specs.Delivery.{bytes_of, events_in, private_bytes, NoneDrains, OwnDrains, Delivers, IsNoCommand, NoneCommands, OwnCommands, AreCommands, IsBesides, ArePassed, Obeys, Hears, HasHeard}

-- ---- what calls hand to a subscriber

-- what one post with its answer hands to u
abbrev given_to : ℕ → posting.Posted → List ℕ
given_to u x = bytes_of (handed_one u x.0 x.1)

-- all that a history hands to u
abbrev all_given : ℕ → List posting.Posted → List ℕ
all_given u h = flat_map (given_to u) h

given_more : (u : ℕ) (h k : List posting.Posted) → all_given u (h ++ k) ≡ all_given u h ++ all_given u k
given_more u h k = flat_map-append (given_to u) h k

paired : (u : ℕ) (h : List posting.Posted) → all_given u h ≡ bytes_of (handed_to u (events_of h) (answers_of h))
paired u [] = refl
paired u (x ∷ h) = ap (λ l. given_to u x ++ l) (paired u h)
    ∙ sym (flat_map-append (λ (y : Handed). y.0) (handed_one u x.0 x.1) (handed_to u (events_of h) (answers_of h)))

-- ---- drains alone hand something out

plain_none : (r : Reply) → IsPlain r → handed_out (told r) ≡ []
plain_none (reply.Done made kept) h = refl
plain_none (reply.Refused r) h = refl
plain_none (reply.Drained buf out) h = absurd h
plain_none (reply.Stats s) h = refl
plain_none (reply.PmuStats s) h = refl
plain_none (reply.Waiting subs) h = refl
plain_none (reply.Audit e) h = refl
plain_none (reply.Standing s) h = refl

either_none : (b : Bool) (l : List Handed) → l ≡ [] → (if b then l else []) ≡ []
either_none true l h = h
either_none false l h = refl

asked_none : (u w : ℕ) (r : Reply) → IsPlain r → bytes_of (if nat_eq u w then handed_out (told r) else []) ≡ []
asked_none u w r h = ap bytes_of (either_none (nat_eq u w) (handed_out (told r)) (plain_none r h))

-- to another subscriber nothing is handed
other_none : (u w : ℕ) (l : List Handed) → u ≢ w → bytes_of (if nat_eq u w then l else []) ≡ []
other_none u w l other = by (nat_eq u w) refl
  where
    by : (b : Bool) → nat_eq u w ≡ b → bytes_of (if nat_eq u w then l else []) ≡ []
    by true is = absurd (other (eqb-true u w is))
    by false is = ap (λ (b : Bool). bytes_of (if b then l else [])) is

-- A call that is no drain of u hands it nothing.
none_given : (u : ℕ) (e : Event) (r : Reply) → Answers e r → ((size : ℕ) → gateway_event e ≢ asks u (drain size)) → given_to u (said (e, r)) ≡ []
none_given u (event.Drain w buf) r h free = other_none u w (handed_out (told r)) (λ same. free (length buf.items) (ap (λ x. asks x (drain (length buf.items))) (sym same)))
none_given u (event.AddPmu key) r h free = refl
none_given u (event.DropPmu key) r h free = refl
none_given u (event.AddSub w size bytes) r h free = refl
none_given u (event.DropSub w) r h free = refl
none_given u (event.Grant w key) r h free = refl
none_given u (event.Revoke w key) r h free = asked_none u w r h
none_given u (event.Define w definition) r h free = asked_none u w r h
none_given u (event.Remove w number) r h free = asked_none u w r h
none_given u (event.Announce config) r h free = refl
none_given u (event.Measure frame) r h free = refl
none_given u (event.Tick soc) r h free = refl
none_given u (event.Connect w) r h free = asked_none u w r h
none_given u (event.Hangup w) r h free = asked_none u w r h
none_given u (event.Command w asked) r h free = asked_none u w r h
none_given u (event.Stats w) r h free = refl
none_given u (event.PmuStats key) r h free = refl
none_given u (event.WhoWaits subs) r h free = refl
none_given u (event.Audit w index) r h free = refl
none_given u (event.Standing w place) r h free = refl

all_none : (u : ℕ) (calls : List Call) → AreAnswered calls → NoneDrains u (history_of calls) → all_given u (history_of calls) ≡ []
all_none u [] h free = refl
all_none u ((e, r) ∷ calls) h free = ap₂ (λ x y. x ++ y) (none_given u e r h.0 free.0) (all_none u calls h.1 free.1)

answered_front : (xs ys : List Call) → AreAnswered (xs ++ ys) → AreAnswered xs × AreAnswered ys
answered_front [] ys h = (tt, h)
answered_front (x ∷ xs) ys h = let rest = answered_front xs ys h.1 in ((h.0, rest.0), rest.1)

-- Where others drain u nowhere, it is given what the seat's own calls give it.
own_given : (u : ℕ) (ps : List Piece) → AreAnswered (calls_in ps) → OwnDrains u ps
    → all_given u (history_of (calls_in ps)) ≡ all_given u (own_in ps)
own_given u [] h free = refl
own_given u (p ∷ ps) h free =
    let parts = answered_front p.0 (p.1 ∷ calls_in ps) h in
    ap (all_given u) (map-append said p.0 (p.1 ∷ calls_in ps))
    ∙ given_more u (history_of p.0) (said p.1 ∷ history_of (calls_in ps))
    ∙ ap₂ (λ x y. x ++ (given_to u (said p.1) ++ y)) (all_none u p.0 parts.0 free.0) (own_given u ps parts.1.1 free.1)

-- Where the seat's own calls drain u nowhere either, it is given nothing.
others_given : (u : ℕ) (ps : List Piece) → AreAnswered (calls_in ps) → NoneDrains u (own_in ps) → all_given u (own_in ps) ≡ []
others_given u [] h free = refl
others_given u ((before, (e, r)) ∷ ps) h free =
    let parts = answered_front before ((e, r) ∷ calls_in ps) h in
    ap₂ (λ x y. x ++ y) (none_given u e r parts.1.0 free.0) (others_given u ps parts.1.1 free.1)

-- ---- what is handed out behind a history

legal_split : (S : SharedMachine) (h k : List posting.Posted) → Legal S (h ++ k) → Legal S h × Legal (state_after S h) k
legal_split S [] k legal = (tt, legal)
legal_split S (x ∷ h) k legal = let rest = legal_split (next S x.0 x.1) h k legal.1 in ((legal.0, rest.0), rest.1)

pub lossless_split : (h k : List posting.Posted) → AllLossless (answers_of (h ++ k)) → AllLossless (answers_of h) × AllLossless (answers_of k)
lossless_split [] k full = (tt, full)
lossless_split (x ∷ h) k full = let rest = lossless_split h k full.1 in ((full.0, rest.0), rest.1)

-- Behind a legal history without loss what is handed to each subscriber is what its private gateway hands out behind its view.
handed_behind : (u : ℕ) (h k : List posting.Posted) → Legal opening (h ++ k) → AllLossless (answers_of (h ++ k))
    → handed_to u (events_of k) (answers_of k) ≡ handed_in (private_run None (view u opening (events_of h))) (view u (after (events_of h)) (events_of k))
handed_behind u h k legal full =
    let legals = legal_split opening h k legal in
    let fulls = lossless_split h k full in
    let state : state_after opening h ≡ after (events_of h) = (full_history opening h legals.0 fulls.0).1 in
    let later : Legal (after (events_of h)) k = subst (λ S. Legal S k) state legals.1 in
    let own : own_of u (after (events_of h)) ≡ private_run None (view u opening (events_of h)) = own-run u opening (events_of h) tt in
    ap (λ answers. handed_to u (events_of k) answers) (full_history (after (events_of h)) k later fulls.1).0
    ∙ handed-run u (after (events_of h)) (events_of k) (Alone-run opening (events_of h) tt)
    ∙ ap (λ o. handed_in o (view u (after (events_of h)) (events_of k))) own

given_behind : (u : ℕ) (before : List Call) (ps : List Piece) → (ps ≡ []) ⊎ Legal opening (history_of (before ++ calls_in ps))
    → AllLossless (answers_of (history_of (before ++ calls_in ps)))
    → all_given u (history_of (calls_in ps)) ≡ private_bytes u before (calls_in ps)
given_behind u before ps legal full =
    let both = map-append said before (calls_in ps) in
    ⊎_elim (λ (none : ps ≡ []). subst (λ (l : List Piece). all_given u (history_of (calls_in l)) ≡ private_bytes u before (calls_in l)) (sym none) refl)
    (λ (is : Legal opening (history_of (before ++ calls_in ps))).
    paired u (history_of (calls_in ps))
    ∙ ap bytes_of (handed_behind u (history_of before) (history_of (calls_in ps)) (subst (λ h. Legal opening h) both is) (subst (λ h. AllLossless (answers_of h)) both full)))
    legal

-- ---- the session's part

told_bytes : (a : Answer) → bytes_of (handed_out a) ≡ bytes_answered a
told_bytes (tells (done made kept)) = refl
told_bytes (tells (refused r)) = refl
told_bytes (tells (handed bytes begun gap)) = append-nil bytes
told_bytes (sub_counts s) = refl
told_bytes (pmu_counts s) = refl
told_bytes (those_waiting us) = refl
told_bytes (entry e) = refl
told_bytes (stands s) = refl

here : (u : ℕ) (a : Answer) → bytes_of (if nat_eq u u then handed_out a else []) ≡ bytes_of (handed_out a)
here u a = let same : nat_eq u u ≡ true = eq-eqb u u refl in ap (λ (b : Bool). bytes_of (if b then handed_out a else [])) same

-- A drain hands on what it was answered, another post nothing.
one_given : (v : Hearing) (call : loop.Call) (e : Event) (r : Reply) → Answers e r → said (e, r) ≡ posted_by v call
    → given_to v.sub (said (e, r)) ≡ handed_by call
one_given v (drains, a) e r h is = ap (given_to v.sub) is ∙ here v.sub a ∙ told_bytes a
one_given v (passes c, a) e r h is =
    none_given v.sub e r h (λ size is_drain. let other = sym (ap (λ (x : posting.Posted). x.0) is) ∙ is_drain in cc)
one_given v (hangs_up, a) e r h is =
    none_given v.sub e r h (λ size is_drain. let other = sym (ap (λ (x : posting.Posted). x.0) is) ∙ is_drain in cc)

abbrev first_of : posting.Posted → List posting.Posted → posting.Posted
first_of x [] = x
first_of x (y ∷ ys) = y

abbrev rest_of : List posting.Posted → List posting.Posted
rest_of [] = []
rest_of (y ∷ ys) = ys

session_given : (v : Hearing) (ps : List Piece) (calls : List loop.Call) → AreAnswered (calls_in ps) → own_in ps ≡ map (posted_by v) calls
    → all_given v.sub (own_in ps) ≡ flat_map handed_by calls
session_given v [] [] h same = refl
session_given v [] (call ∷ calls) h same = absurd (let other = same in cc)
session_given v (p ∷ ps) [] h same = absurd (let other = same in cc)
session_given v ((before, (e, r)) ∷ ps) (call ∷ calls) h same =
    let parts = answered_front before ((e, r) ∷ calls_in ps) h in
    let is : said (e, r) ≡ posted_by v call = ap (first_of (said (e, r))) same in
    ap₂ (λ x y. x ++ y) (one_given v call e r parts.1.0 is) (session_given v ps calls parts.1.1 (ap rest_of same))

-- ---- over one call, in the meantime, and over both

went_legal : (s s' : Known Event Reply) (on : GoesOn s s') → (on.pieces ≡ []) ⊎ Legal opening (history_of (s.seen ++ calls_in on.pieces))
went_legal s s' on = ⊎_elim inl (λ legal. inr (subst (λ calls. Legal opening (history_of calls)) on.seen legal)) on.legal

went_full : (s s' : Known Event Reply) (on : GoesOn s s') → AllLossless (answers_of (history_of s'.seen))
    → AllLossless (answers_of (history_of (s.seen ++ calls_in on.pieces)))
went_full s s' on full = subst (λ calls. AllLossless (answers_of (history_of calls))) on.seen full

pub delivers_call : (s s' : Known Event Reply) (stream : List ℕ) (given : List Item) (v v' : Hearing) (r r' w w' : Option (List ℕ))
    → RanFrom stream given v v' r r' w w' (Some (said_at s.seen s.own)) (Some (said_at s'.seen s'.own)) → GoesOn s s'
    → Delivers v.sub s s' v.left v'.left w w'
delivers_call s s' stream given v v' r r' w w' ran on =
    let same : own_in on.pieces ≡ map (posted_by v) ran.calls = append_cancel_left (said_at s.seen s.own) (own_in on.pieces) (map (posted_by v) ran.calls) (sym on.said ∙ ran.posted) in
    record {
      since = on.pieces;
      seen = on.seen;
      own = on.own;
      out = ran.out;
      wrote = ran.wrote;
      bytes = λ full own.
          ran.goes_on
          ∙ ap (λ l. v.left ++ l)
          (sym (session_given v on.pieces ran.calls on.answered same) ∙ sym (own_given v.sub on.pieces on.answered own)
          ∙ given_behind v.sub s.seen on.pieces (went_legal s s' on) (went_full s s' on full));
    }

pub delivers_meanwhile : (u : ℕ) (s s' : Known Event Reply) (left : List ℕ) (w : Option (List ℕ)) (on : GoesOn s s') → NoneDrains u (own_in on.pieces)
    → Delivers u s s' left left w w
delivers_meanwhile u s s' left w on others = record {
  since = on.pieces;
  seen = on.seen;
  own = on.own;
  out = [];
  wrote = appends_nil w;
  bytes = λ full own.
      sym (append-nil left)
      ∙ ap (λ l. left ++ l)
      (sym (others_given u on.pieces on.answered others) ∙ sym (own_given u on.pieces on.answered own)
      ∙ given_behind u s.seen on.pieces (went_legal s s' on) (went_full s s' on full));
}

pub view_more : (u : ℕ) (S : SharedMachine) (es fs : List GatewayEvent) → view u S (es ++ fs) ≡ view u S es ++ view u (shared_run S es) fs
view_more u S [] fs = refl
view_more u S (e ∷ es) fs =
    ap (λ l. part u S e ++ l) (view_more u (shared_step S e) es fs)
    ∙ sym (append_assoc (part u S e) (view u (shared_step S e) es) (view u (shared_run (shared_step S e) es) fs))

run_more : (S : SharedMachine) (es fs : List GatewayEvent) → shared_run S (es ++ fs) ≡ shared_run (shared_run S es) fs
run_more S [] fs = refl
run_more S (e ∷ es) fs = run_more (shared_step S e) es fs

private_more : (o : Option Model) (xs ys : List ViewEvent) → private_run o (xs ++ ys) ≡ private_run (private_run o xs) ys
private_more o [] ys = refl
private_more o (x ∷ xs) ys = private_more (private_step o x) xs ys

handed_more : (o : Option Model) (xs ys : List ViewEvent) → handed_in o (xs ++ ys) ≡ handed_in o xs ++ handed_in (private_run o xs) ys
handed_more o [] ys = refl
handed_more o (x ∷ xs) ys =
    ap (λ l. handed_at o x ++ l) (handed_more (private_step o x) xs ys)
    ∙ sym (append_assoc (handed_at o x) (handed_in (private_step o x) xs) (handed_in (private_run (private_step o x) xs) ys))

pub events_more : (a b : List Call) → events_in (a ++ b) ≡ events_in a ++ events_in b
events_more [] b = refl
events_more (x ∷ a) b = ap (λ l. gateway_event x.0 ∷ l) (events_more a b)

pub private_both : (u : ℕ) (a b k : List Call) → private_bytes u a (b ++ k) ≡ private_bytes u a b ++ private_bytes u (a ++ b) k
private_both u a b k =
    let A = events_in a in
    let B = events_in b in
    let K = events_in k in
    let o = private_run None (view u opening A) in
    let seen = view u (after A) B in
    let behind : private_bytes u (a ++ b) k ≡ bytes_of (handed_in (private_run o seen) (view u (shared_run (after A) B) K)) =
    ap (λ es. bytes_of (handed_in (private_run None (view u opening es)) (view u (after es) K))) (events_more a b)
    ∙ ap₂ (λ p S. bytes_of (handed_in p (view u S K)))
    (ap (λ xs. private_run None xs) (view_more u opening A B) ∙ private_more None (view u opening A) seen) (run_more opening A B)
    in
    ap (λ es. bytes_of (handed_in o (view u (after A) es))) (events_more b k)
    ∙ ap (λ xs. bytes_of (handed_in o xs)) (view_more u (after A) B K)
    ∙ ap bytes_of (handed_more o seen (view u (shared_run (after A) B) K))
    ∙ flat_map-append (λ (y : Handed). y.0) (handed_in o seen) (handed_in (private_run o seen) (view u (shared_run (after A) B) K))
    ∙ ap (λ l. bytes_of (handed_in o seen) ++ l) (sym behind)

own_split : (u : ℕ) (ps qs : List Piece) → OwnDrains u (ps ++ qs) → OwnDrains u ps × OwnDrains u qs
own_split u [] qs h = (tt, h)
own_split u (p ∷ ps) qs h = let rest = own_split u ps qs h.1 in ((h.0, rest.0), rest.1)

pub delivers_more : (u : ℕ) (s t x : Known Event Reply) (l l' l'' : List ℕ) (w w' w'' : Option (List ℕ))
    → Delivers u s t l l' w w' → Delivers u t x l' l'' w' w'' → Delivers u s x l l'' w w''
delivers_more u s t x l l' l'' w w' w'' h k = record {
  since = h.since ++ k.since;
  seen = k.seen ∙ ap (λ z. z ++ calls_in k.since) h.seen ∙ append_assoc s.seen (calls_in h.since) (calls_in k.since)
      ∙ ap (λ z. s.seen ++ z) (sym (calls_more h.since k.since));
  own = owned_more s t x h.since k.since h.seen h.own k.own;
  out = h.out ++ k.out;
  wrote = appends_more w w' w'' h.out k.out h.wrote k.wrote;
  bytes = λ full own.
      let before : AllLossless (answers_of (history_of t.seen)) =
      (lossless_split (history_of t.seen) (history_of (calls_in k.since))
      (subst (λ c. AllLossless (answers_of c)) (ap history_of k.seen ∙ map-append said t.seen (calls_in k.since)) full)).0 in
      let owns = own_split u h.since k.since own in
      let first = private_bytes u s.seen (calls_in h.since) in
      let later = private_bytes u t.seen (calls_in k.since) in
      append_assoc h.out k.out l'' ∙ ap (λ z. h.out ++ z) (k.bytes full owns.1)
      ∙ sym (append_assoc h.out l' later) ∙ ap (λ z. z ++ later) (h.bytes before owns.0) ∙ append_assoc l first later
      ∙ ap (λ z. l ++ z)
      (ap (λ b. first ++ private_bytes u b (calls_in k.since)) h.seen
      ∙ sym (private_both u s.seen (calls_in h.since) (calls_in k.since))
      ∙ ap (private_bytes u s.seen) (sym (calls_more h.since k.since)));
}

-- ---- commands

passed_over : (u : ℕ) (post : posting.Posted) (posts : List posting.Posted) (cs : List Command) → IsNoCommand u post → AreCommands u posts cs
    → AreCommands u (post ∷ posts) cs
passed_over u post posts [] free h = (free, h)
passed_over u post posts (c ∷ cs) free h = inr (free, h)

all_passed_over : (u : ℕ) (xs ys : List posting.Posted) (cs : List Command) → NoneCommands u xs → AreCommands u ys cs → AreCommands u (xs ++ ys) cs
all_passed_over u [] ys cs free h = h
all_passed_over u (x ∷ xs) ys cs free h = passed_over u x (xs ++ ys) cs free.0 (all_passed_over u xs ys cs free.1 h)

no_command : (u : ℕ) (post : posting.Posted) → IsBesides u post → IsNoCommand u post
no_command u post besides = λ stream word is_command.
    ⊎_elim (λ is. let other = sym is ∙ is_command in cc)
    (λ rest. ⊎_elim (λ is. let other = sym is.1 ∙ is_command in cc) (λ is. let other = sym is ∙ is_command in cc) rest)
    besides

-- What a seat's own calls pass on is what the subscriber is given, where others give it nothing.
given_on : (u : ℕ) (ps : List Piece) (cs : List Command) → ArePassed u (own_in ps) cs → OwnCommands u ps → AreCommands u (history_of (calls_in ps)) cs
given_on u [] [] passed own = tt
given_on u [] (c ∷ cs) passed own = absurd passed
given_on u (p ∷ ps) [] passed own =
    subst (λ h. AreCommands u h []) (sym (map-append said p.0 (p.1 ∷ calls_in ps)))
    (all_passed_over u (history_of p.0) (said p.1 ∷ history_of (calls_in ps)) [] own.0 (no_command u (said p.1) passed.0, given_on u ps [] passed.1 own.1))
given_on u (p ∷ ps) (c ∷ cs) passed own =
    subst (λ h. AreCommands u h (c ∷ cs)) (sym (map-append said p.0 (p.1 ∷ calls_in ps)))
    (all_passed_over u (history_of p.0) (said p.1 ∷ history_of (calls_in ps)) (c ∷ cs) own.0
    (⊎_elim (λ one. inl (one.0, given_on u ps cs one.1 own.1)) (λ one. inr (no_command u (said p.1) one.0, given_on u ps (c ∷ cs) one.1 own.1)) passed))

passed_besides : (u : ℕ) (post : posting.Posted) (posts : List posting.Posted) (cs : List Command) → IsBesides u post → ArePassed u posts cs
    → ArePassed u (post ∷ posts) cs
passed_besides u post posts [] besides h = (besides, h)
passed_besides u post posts (c ∷ cs) besides h = inr (besides, h)

-- what a session posts
session_passed : (v : Hearing) (calls : List loop.Call) → ArePassed v.sub (map (posted_by v) calls) (flat_map passed_by calls)
session_passed v [] = tt
session_passed v ((passes c, a) ∷ calls) = inl (refl, session_passed v calls)
session_passed v ((drains, a) ∷ calls) =
    passed_besides v.sub (posted_by v (drains, a)) (map (posted_by v) calls) (flat_map passed_by calls) (inr (inl (v.buffer, refl))) (session_passed v calls)
session_passed v ((hangs_up, a) ∷ calls) =
    passed_besides v.sub (posted_by v (hangs_up, a)) (map (posted_by v) calls) (flat_map passed_by calls) (inr (inr refl)) (session_passed v calls)

obeys_on : (u : ℕ) (s s' : Known Event Reply) (cs : List Command) (on : GoesOn s s') → ArePassed u (own_in on.pieces) cs → Obeys u s s' cs
obeys_on u s s' cs on passed = record {
  since = on.pieces;
  seen = on.seen;
  own = on.own;
  passed = passed;
  given = given_on u on.pieces cs passed;
}

pub hears_call : (end : End) (s s' : Known Event Reply) (stream : List ℕ) (given : List Item) (v v' : Hearing) (r r' w w' : Option (List ℕ))
    → ServedFrom end stream given v v' r r' w w' (Some (said_at s.seen s.own)) (Some (said_at s'.seen s'.own)) → GoesOn s s'
    → Hears stream given v v' s s' r r'
hears_call end s s' stream given v v' r r' w w' served on =
    let ran = served.ran in
    let same : own_in on.pieces ≡ map (posted_by v) ran.calls = append_cancel_left (said_at s.seen s.own) (own_in on.pieces) (map (posted_by v) ran.calls) (sym on.said ∙ ran.posted) in
    record {
      bytes = ran.bytes;
      items = ran.items;
      sub = ran.sub;
      read = ran.read;
      shows = ran.shows;
      all = served.all;
      obeys = obeys_on v.sub s s' (flat_map command_in ran.items) on
          (subst (λ posts. ArePassed v.sub posts (flat_map command_in ran.items)) (sym same)
          (subst (λ cs. ArePassed v.sub (map (posted_by v) ran.calls) cs) ran.passed (session_passed v ran.calls)));
    }

-- ---- commands of several calls

passed_more : (u : ℕ) (xs ys : List posting.Posted) (cs ds : List Command) → ArePassed u xs cs → ArePassed u ys ds → ArePassed u (xs ++ ys) (cs ++ ds)
passed_more u [] ys [] ds h k = k
passed_more u [] ys (c ∷ cs) ds h k = absurd h
passed_more u (x ∷ xs) ys [] ds h k = passed_besides u x (xs ++ ys) ds h.0 (passed_more u xs ys [] ds h.1 k)
passed_more u (x ∷ xs) ys (c ∷ cs) ds h k =
    ⊎_elim (λ one. inl (one.0, passed_more u xs ys cs ds one.1 k)) (λ one. inr (one.0, passed_more u xs ys (c ∷ cs) ds one.1 k)) h

obeys_more : (u : ℕ) (s t x : Known Event Reply) (cs ds : List Command) → Obeys u s t cs → Obeys u t x ds → Obeys u s x (cs ++ ds)
obeys_more u s t x cs ds h k =
    let passed : ArePassed u (own_in (h.since ++ k.since)) (cs ++ ds) =
    subst (λ posts. ArePassed u posts (cs ++ ds)) (sym (map-append (λ (piece : Piece). said piece.1) h.since k.since))
    (passed_more u (own_in h.since) (own_in k.since) cs ds h.passed k.passed) in
    record {
      since = h.since ++ k.since;
      seen = k.seen ∙ ap (λ z. z ++ calls_in k.since) h.seen ∙ append_assoc s.seen (calls_in h.since) (calls_in k.since)
          ∙ ap (λ z. s.seen ++ z) (sym (calls_more h.since k.since));
      own = owned_more s t x h.since k.since h.seen h.own k.own;
      passed = passed;
      given = given_on u (h.since ++ k.since) (cs ++ ds) passed;
    }

pub hears_more : (stream : List ℕ) (given : List Item) (v v' v'' : Hearing) (s t x : Known Event Reply) (r r' r'' : Option (List ℕ))
    → (one : Hears stream given v v' s t r r') → Hears (stream ++ one.bytes) (given ++ one.items) v' v'' t x r' r''
    → Hears stream given v v'' s x r r''
hears_more stream given v v' v'' s t x r r' r'' one other =
    let bytes = append_assoc stream one.bytes other.bytes in
    let items = append_assoc given one.items other.items in
    let obeys : Obeys v.sub t x (flat_map command_in other.items) = subst (λ u. Obeys u t x (flat_map command_in other.items)) one.sub other.obeys in
    record {
      bytes = one.bytes ++ other.bytes;
      items = one.items ++ other.items;
      sub = other.sub ∙ one.sub;
      read = consumes_more r r' r'' one.bytes other.bytes one.read other.read;
      shows = subst (λ b. ShowsHearing v'' b (given ++ (one.items ++ other.items))) bytes
          (subst (λ i. ShowsHearing v'' ((stream ++ one.bytes) ++ other.bytes) i) items other.shows);
      all = sym items ∙ other.all ∙ ap items_of bytes;
      obeys = subst (λ cs. Obeys v.sub s x cs) (sym (flat_map-append command_in one.items other.items))
          (obeys_more v.sub s t x (flat_map command_in one.items) (flat_map command_in other.items) one.obeys obeys);
    }

pub has_heard_none : (u : ℕ) (v : Hearing) (s s' : Known Event Reply) (r : Option (List ℕ)) (on : GoesOn s s') → v.sub ≡ u → ShowsHearing v [] []
    → ArePassed u (own_in on.pieces) [] → HasHeard u v s s' r r
has_heard_none u v s s' r on sub shows passed =
    let none : [] ≡ items_of [] = ap (map item_of) (sym no_frames) in
    record {
      sub = sub;
      bytes = [];
      read = consumes_nil r;
      shows = subst (λ items. ShowsHearing v [] items) none shows;
      obeys = subst (λ items. Obeys u s s' (flat_map command_in items)) none (obeys_on u s s' [] on passed);
    }

pub has_heard_more : (u : ℕ) (v v' : Hearing) (s t x : Known Event Reply) (r r' r'' : Option (List ℕ)) → HasHeard u v s t r r'
    → ((stream : List ℕ) (given : List Item) → ShowsHearing v stream given → Hears stream given v v' t x r' r'')
    → HasHeard u v' s x r r''
has_heard_more u v v' s t x r r' r'' before call =
    let one = call before.bytes (items_of before.bytes) before.shows in
    let obeys : Obeys u t x (flat_map command_in one.items) = subst (λ w. Obeys w t x (flat_map command_in one.items)) before.sub one.obeys in
    record {
      sub = one.sub ∙ before.sub;
      bytes = before.bytes ++ one.bytes;
      read = consumes_more r r' r'' before.bytes one.bytes before.read one.read;
      shows = subst (λ items. ShowsHearing v' (before.bytes ++ one.bytes) items) one.all one.shows;
      obeys = subst (λ cs. Obeys u s x cs) (sym (flat_map-append command_in (items_of before.bytes) one.items) ∙ ap (flat_map command_in) one.all)
          (obeys_more u s t x (flat_map command_in (items_of before.bytes)) (flat_map command_in one.items) before.obeys obeys);
    }
