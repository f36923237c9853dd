-- Runs of a link's loop, put together from steps.
use Rattle.std.proofs.Common.{◌≡◌, ◌∙◌, sym, subst, ap, ap₂, refl, ◌≤◌, Bool, true, false, arith, ℕ, List, [], ◌∷◌, ◌++◌, filter, map, length, append-nil, append_assoc, Option, Some, Result, Ok, Err, IfOk}
use Rattle.std.specs.List.{flat_map}
use Rattle.std.specs.Io.KnownBytes.{Appends, Consumes}
use Rattle.std.proofs.lemmas.List.{map-append}
use Rattle.std.proofs.lemmas.Grind.{flat_map-append}
use Rattle.std.proofs.lemmas.List.Elements.{filter-append}
use Rattle.pg_command.specs.Words.{word_number}
use Rattle.pg_command.specs.Spelling.{written}
use Rattle.pg_gateway.specs.GatewayEvents.{GatewayEvent, Answer}
use Rattle.pg_gateway.specs.Posting.{Posted, Notes, posted_if}
use Rattle.pg_wire.specs.declared.refusal.Refusal.{Refusal}
use Rattle.pg_wire.specs.Reads.{Gave}
use Rattle.pg_ingest.specs.Items.{Item, announces, measures, skips, rejects_config, rejects_data, passes_over, reason_of}
use Rattle.pg_ingest.specs.Begun.{Begins}
use Rattle.pg_ingest.specs.Commands.{tells}
use Rattle.pg_ingest.specs.Linking.{Linking}
use Rattle.pg_ingest.specs.Shown.{LinkPast, ShowsLink, IsAllTold, doing}
use Rattle.pg_ingest.specs.Runs.{Step, begins, reads, posts, stepping, after_steps, MayStep, AreSteps, bytes_of, events_of, events_told, frame_of, event_posted, Wires, wires, RanFrom, Ran, RanOn}
use Rattle.pg_ingest.proofs.Known.{notes_nil, notes_more, appends_nil, appends_more, consumes_nil, consumes_more}

abbrev pub Bytes : Type 0
Bytes = Option (List ℕ)

abbrev pub Calls : Type 0
Calls = Option (List Posted)

-- which events a gate takes
abbrev pub Takes : Type 0
Takes = GatewayEvent → Bool

-- these steps were done
abbrev pub Did : Takes → List Step → LinkPast → List ℕ → Linking → Bytes → Bytes → Bytes → Bytes → Calls → Calls → Type 0
Did t steps past left v r r' w w' p p' = (ran : RanFrom past left v (wires r w p t) (wires r' w' p' t)) × (ran.steps ≡ steps)

pub after-append : (past : LinkPast) (a b : List Step) → after_steps past (a ++ b) ≡ after_steps (after_steps past a) b
after-append past [] b = refl
after-append past (s ∷ a) b = after-append (stepping past s) a b

pub are-append : (past : LinkPast) (a b : List Step) → AreSteps past a → AreSteps (after_steps past a) b → AreSteps past (a ++ b)
are-append past [] b h k = k
are-append past (s ∷ a) b h k = (h.0, are-append (stepping past s) a b h.1 k)

source_same : (past : LinkPast) (s : Step) → (stepping past s).source ≡ past.source
source_same past (begins word) = refl
source_same past (reads piece) = refl
source_same past (posts item) = refl

pub source_stays : (past : LinkPast) (a : List Step) → (after_steps past a).source ≡ past.source
source_stays past [] = refl
source_stays past (s ∷ a) = source_stays (stepping past s) a ∙ source_same past s

-- nothing but a write of what was left
pub from_wrote : {t : Takes} → (past : LinkPast) (left : List ℕ) (v' : Linking) (r w w' : Bytes) (p : Calls) (out : List ℕ) → Appends w w' out → out ++ v'.left ≡ left → ShowsLink v' past
    → Did t [] past left v' r r w w' p p
from_wrote past left v' r w w' p out wrote is shows = (
  record {
    steps = [];
    are = tt;
    shows = shows;
    read = consumes_nil r;
    calls = [];
    posted = notes_nil p;
    events = refl;
    takes = refl;
    out = out;
    wrote = wrote;
    goes_on = is ∙ sym (append-nil left);
  },
  refl,
)

-- one step that writes nothing by itself
pub from_step : {t : Takes} → (past : LinkPast) (left : List ℕ) (v' : Linking) (r r' w : Bytes) (p p' : Calls) (step : Step) (calls : List Posted) → MayStep past step → ShowsLink v' (stepping past step)
    → Consumes r r' (bytes_of step) → Notes p p' calls → map event_posted calls ≡ filter t (events_of step) → v'.left ≡ left ++ frame_of past.source step
    → Did t (step ∷ []) past left v' r r' w w p p'
from_step {t = t} past left v' r r' w p p' step calls may shows read posted events is = (
  record {
    steps = step ∷ [];
    are = (may, tt);
    shows = shows;
    read = rw (append-nil (bytes_of step)) read;
    calls = calls;
    posted = posted;
    events = events ∙ ap (filter t) (sym (append-nil (events_of step)));
    takes = refl;
    out = [];
    wrote = appends_nil w;
    goes_on = is ∙ ap (λ x. left ++ x) (sym (append-nil (frame_of past.source step)));
  },
  refl,
)

-- one run after another is one run
pub from_more : {t : Takes} → (past : LinkPast) (left : List ℕ) (v' v'' : Linking) (r r' r'' w w' w'' : Bytes) (p p' p'' : Calls)
    → (a : RanFrom past left v' (wires r w p t) (wires r' w' p' t)) (b : RanFrom (after_steps past a.steps) v'.left v'' (wires r' w' p' t) (wires r'' w'' p'' t))
    → Did t (a.steps ++ b.steps) past left v'' r r'' w w'' p p''
from_more {t = t} past left v' v'' r r' r'' w w' w'' p p' p'' a b =
    let frames : flat_map (frame_of (after_steps past a.steps).source) b.steps ≡ flat_map (frame_of past.source) b.steps =
    ap (λ s. flat_map (frame_of s) b.steps) (source_stays past a.steps) in (
      record {
        steps = a.steps ++ b.steps;
        are = are-append past a.steps b.steps a.are b.are;
        shows = subst (ShowsLink v'') (sym (after-append past a.steps b.steps)) b.shows;
        read = subst (Consumes r r'') (sym (flat_map-append bytes_of a.steps b.steps)) (consumes_more r r' r'' _ _ a.read b.read);
        calls = a.calls ++ b.calls;
        posted = notes_more p p' p'' a.calls b.calls a.posted b.posted;
        events = map-append event_posted a.calls b.calls ∙ ap₂ (λ x y. x ++ y) a.events b.events
            ∙ sym (filter-append t (flat_map events_of a.steps) (flat_map events_of b.steps))
            ∙ ap (filter t) (sym (flat_map-append events_of a.steps b.steps));
        takes = refl;
        out = a.out ++ b.out;
        wrote = appends_more w w' w'' a.out b.out a.wrote b.wrote;
        goes_on = append_assoc a.out b.out v''.left
            ∙ ap (λ x. a.out ++ x) (b.goes_on ∙ ap (λ x. v'.left ++ x) frames)
            ∙ sym (append_assoc a.out v'.left (flat_map (frame_of past.source) b.steps))
            ∙ ap (λ x. x ++ flat_map (frame_of past.source) b.steps) a.goes_on
            ∙ append_assoc left (flat_map (frame_of past.source) a.steps) (flat_map (frame_of past.source) b.steps)
            ∙ ap (λ x. left ++ x) (sym (flat_map-append (frame_of past.source) a.steps b.steps));
      },
      refl,
    )

-- the same, with what is known of the steps
pub ran_more : {t : Takes} → (P Q R : LinkPast → List Step → Type 0) → ((past : LinkPast) (a b : List Step) → P past a → Q (after_steps past a) b → R past (a ++ b))
    → (v v' v'' : Linking) (r r' r'' w w' w'' : Bytes) (p p' p'' : Calls) → Ran P v v' (wires r w p t) (wires r' w' p' t) → Ran Q v' v'' (wires r' w' p' t) (wires r'' w'' p'' t) → Ran R v v'' (wires r w p t) (wires r'' w'' p'' t)
ran_more P Q R join v v' v'' r r' r'' w w' w'' p p' p'' first second past shows =
    let a = first past shows in
    let b = second (after_steps past a.0.steps) a.0.shows in
    let both = from_more past v.left v' v'' r r' r'' w w' w'' p p' p'' a.0 b.0 in
    (both.0, subst (R past) (sym both.1) (join past a.0.steps b.0.steps a.1 b.1))

-- the same where the second run needs that all is told
pub ran_on : {t : Takes} → (P Q R : LinkPast → List Step → Type 0) → ((past : LinkPast) (a b : List Step) → P past a → Q (after_steps past a) b → R past (a ++ b))
    → ((past : LinkPast) (a : List Step) → P past a → IsAllTold (after_steps past a))
    → (v v' v'' : Linking) (r r' r'' w w' w'' : Bytes) (p p' p'' : Calls) → Ran P v v' (wires r w p t) (wires r' w' p' t) → RanOn Q v' v'' (wires r' w' p' t) (wires r'' w'' p'' t) → Ran R v v'' (wires r w p t) (wires r'' w'' p'' t)
ran_on P Q R join told v v' v'' r r' r'' w w' w'' p p' p'' first second past shows =
    let a = first past shows in
    let b = second (after_steps past a.0.steps) a.0.shows (told past a.0.steps a.1) in
    let both = from_more past v.left v' v'' r r' r'' w w' w'' p p' p'' a.0 b.0 in
    (both.0, subst (R past) (sym both.1) (join past a.0.steps b.0.steps a.1 b.1))

-- the same of two runs that both need it
pub on_more : {t : Takes} → (P Q R : LinkPast → List Step → Type 0) → ((past : LinkPast) (a b : List Step) → P past a → Q (after_steps past a) b → R past (a ++ b))
    → ((past : LinkPast) (a : List Step) → P past a → IsAllTold past → IsAllTold (after_steps past a))
    → (v v' v'' : Linking) (r r' r'' w w' w'' : Bytes) (p p' p'' : Calls) → RanOn P v v' (wires r w p t) (wires r' w' p' t) → RanOn Q v' v'' (wires r' w' p' t) (wires r'' w'' p'' t) → RanOn R v v'' (wires r w p t) (wires r'' w'' p'' t)
on_more P Q R join keeps v v' v'' r r' r'' w w' w'' p p' p'' first second past shows told =
    let a = first past shows told in
    let b = second (after_steps past a.0.steps) a.0.shows (keeps past a.0.steps a.1 told) in
    let both = from_more past v.left v' v'' r r' r'' w w' w'' p p' p'' a.0 b.0 in
    (both.0, subst (R past) (sym both.1) (join past a.0.steps b.0.steps a.1 b.1))

pub on_as : {t : Takes} → (P Q : LinkPast → List Step → Type 0) → ((past : LinkPast) (a : List Step) → P past a → Q past a)
    → (v v' : Linking) (r r' w w' : Bytes) (p p' : Calls) → Ran P v v' (wires r w p t) (wires r' w' p' t) → RanOn Q v v' (wires r w p t) (wires r' w' p' t)
on_as P Q is v v' r r' w w' p p' ran past shows told = let a = ran past shows in (a.0, is past a.0.steps a.1)

pub ran_as : {t : Takes} → (P Q : LinkPast → List Step → Type 0) → ((past : LinkPast) (a : List Step) → P past a → Q past a)
    → (v v' : Linking) (r r' w w' : Bytes) (p p' : Calls) → Ran P v v' (wires r w p t) (wires r' w' p' t) → Ran Q v v' (wires r w p t) (wires r' w' p' t)
ran_as P Q is v v' r r' w w' p p' ran past shows = let a = ran past shows in (a.0, is past a.0.steps a.1)

abbrev pub Nothing : LinkPast → List Step → Type 0
Nothing past steps = steps ≡ []

pub ran_wrote : {t : Takes} → (v v' : Linking) (r w w' : Bytes) (p : Calls) (out : List ℕ) → Appends w w' out → out ++ v'.left ≡ v.left
    → ((past : LinkPast) → ShowsLink v past → ShowsLink v' past) → Ran Nothing v v' (wires r w p t) (wires r w' p t)
ran_wrote v v' r w w' p out wrote is keeps past shows = from_wrote past v.left v' r w w' p out wrote is (keeps past shows)

pub ran_nothing : {t : Takes} → (v : Linking) (r w : Bytes) (p : Calls) → Ran Nothing v v (wires r w p t) (wires r w p t)
ran_nothing v r w p = ran_wrote v v r w w p [] (appends_nil w) refl (λ past shows. shows)

-- of an event that is told, what is posted is the event, where the gate takes it
posted_is : (t : Takes) (o : GatewayEvent) (a : Answer) (b : Bool) → t o ≡ b → map event_posted (posted_if b o a) ≡ filter t (o ∷ [])
posted_is t o a true e = rw e refl
posted_is t o a false e = rw e refl

-- what was told was posted, where the gate takes it
pub from_told : {t : Takes} → (past : LinkPast) (v v' : Linking) (r w : Bytes) (p p' : Calls) (item : Item) (o : GatewayEvent) (a : Answer) → ShowsLink v' (doing past (tells item))
    → Notes p p' (posted_if (t o) o a) → events_told item ≡ o ∷ [] → v'.left ≡ v.left → Did t (posts item ∷ []) past v.left v' r r w w p p'
from_told {t = t} past v v' r w p p' item o a told posted is left =
    from_step past v.left v' r r w p p' (posts item) (posted_if (t o) o a) tt told (consumes_nil r) posted
    (posted_is t o a _ refl ∙ ap (filter t) (sym is)) (left ∙ sym (append-nil v.left))

no_event : (item : Item) (r : Refusal) → reason_of item ≡ Some r → events_told item ≡ []
no_event (announces config) r h = absurd (cc)
no_event (measures m) r h = absurd (cc)
no_event (skips x) r h = refl
no_event (rejects_config x) r h = refl
no_event (rejects_data x) r h = refl
no_event passes_over r h = refl

-- a frame was ignored
pub from_ignored : {t : Takes} → (past : LinkPast) (v v' : Linking) (r w : Bytes) (p : Calls) (refusal : Refusal) (item : Item) → reason_of item ≡ Some refusal
    → ShowsLink v' (doing past (tells item)) → v'.left ≡ v.left → Did t (posts item ∷ []) past v.left v' r r w w p p
from_ignored {t = t} past v v' r w p refusal item reason told left =
    from_step past v.left v' r r w p p (posts item) [] tt told (consumes_nil r) (notes_nil p) (ap (filter t) (sym (no_event item refusal reason))) (left ∙ sym (append-nil v.left))

-- a command was begun, where nothing was left
pub from_begun : {t : Takes} → (past : LinkPast) (v v' : Linking) (r w : Bytes) (p : Calls) → v.left ≡ [] → IsAllTold past → (given : Begins past v' true)
    → Did t (begins given.0 ∷ []) past v.left v' r r w w p p
from_begun past v v' r w p empty told given =
    from_step past v.left v' r r w p p (begins given.0) [] (told, given.1) given.2 (consumes_nil r) (notes_nil p) refl (given.3 ∙ ap (λ x. x ++ written past.source 0 (word_number given.0)) (sym empty))

-- what is left to write is no part of what a link shows
pub left_unshown : (v v' : Linking) (past : LinkPast) → v' ≡ record v { left = v'.left } → ShowsLink v past → ShowsLink v' past
left_unshown v v' past same shows = subst (λ x. ShowsLink x past) (sym same) (record {
  source = shows.source;
  frames = shows.frames;
  bytes = shows.bytes;
  told = shows.told;
  known = shows.known;
  asking = shows.asking;
  stats = shows.stats;
})

pub ran_same : {t : Takes} → (P : LinkPast → List Step → Type 0) (v v' v'' : Linking) (r r' w w' : Bytes) (p p' : Calls) → v'' ≡ v' → Ran P v v' (wires r w p t) (wires r' w' p' t) → Ran P v v'' (wires r w p t) (wires r' w' p' t)
ran_same {t = t} P v v' v'' r r' w w' p p' same ran = subst (λ x. Ran P v x (wires r w p t) (wires r' w' p' t)) (sym same) ran

-- a piece is as long as the read told
pub small_piece : {E : Type 0} (r r' : Bytes) (read : Result ℕ E) (piece : List ℕ) (most : ℕ) → Gave r r' read piece → IfOk read (λ n. n ≤ most) → length piece ≤ most
small_piece r r' (Ok n) piece most gave small = omega (arith, gave.sized, small)
small_piece r r' (Err e) piece most gave small = omega (arith, gave.sized)

-- the same steps, where the gate is known to take these events, and to take them afterwards
pub retaken : (past : LinkPast) (left : List ℕ) (v : Linking) (before after : Wires) (t u : Takes) → before.takes ≡ t → u ≡ t
    → (ran : RanFrom past left v before after)
    → (again : RanFrom past left v (wires before.unread before.written before.posted t) (wires after.unread after.written after.posted u)) × (again.steps ≡ ran.steps)
retaken past left v before after t u e f ran = (
  record {
    steps = ran.steps;
    are = ran.are;
    shows = ran.shows;
    read = ran.read;
    calls = ran.calls;
    posted = ran.posted;
    events = ran.events ∙ ap (λ (x : Takes). filter x (flat_map events_of ran.steps)) e;
    takes = f;
    out = ran.out;
    wrote = ran.wrote;
    goes_on = ran.goes_on;
  },
  refl,
)

-- the same runs, where the gate is known to take these events
pub on_retaken : (P : LinkPast → List Step → Type 0) (v v' : Linking) (r r' w w' : Bytes) (p p' : Calls) (t u : Takes) → u ≡ t
    → RanOn P v v' (wires r w p u) (wires r' w' p' u) → RanOn P v v' (wires r w p t) (wires r' w' p' t)
on_retaken P v v' r r' w w' p p' t u e ran = subst (λ (x : Takes). RanOn P v v' (wires r w p x) (wires r' w' p' x)) e ran

pub ran_retaken : (P : LinkPast → List Step → Type 0) (v v' : Linking) (r r' w w' : Bytes) (p p' : Calls) (t u : Takes) → u ≡ t
    → Ran P v v' (wires r w p t) (wires r' w' p' t) → Ran P v v' (wires r w p t) (wires r' w' p' u)
ran_retaken P v v' r r' w w' p p' t u e ran = subst (λ (x : Takes). Ran P v v' (wires r w p t) (wires r' w' p' x)) (sym e) ran
