-- What is known of the steps of a link's loop.
use Rattle.std.proofs.Common.{◌≡◌, ◌≢◌, ◌∙◌, sym, subst, ap, refl, ◌≤◌, ◌<◌, ◌+◌, inl, inr, Bool, true, false, ◌==◌, arith, ℕ, List, [], ◌∷◌, ◌++◌, map, reverse, length, length-append, append-nil, append_assoc, Option, Some, None}
use Rattle.std.proofs.lemmas.List.{map-append}
use Rattle.std.specs.Io.KnownBytes.{Consumes}
use Rattle.pg_wire.specs.declared.refusal.Refusal.{Refusal}
use Rattle.pg_wire.specs.Number.{number_of}
use Rattle.pg_wire.specs.Held.{IsBreak}
use Rattle.std.specs.List.{All}
use Rattle.std.proofs.lemmas.List.Elements.{All-nil, All-cons, All-head, All-tail, All-append}
use Rattle.std.proofs.lemmas.Bool.{eqb-true}
use Rattle.pg_command.specs.declared.word.Word.{Word}
use Rattle.pg_ingest.specs.declared.run.End.{End}
use Rattle.pg_ingest.specs.declared.run.End.TheVariants.{Closed, Quiet, Stalled, Fault}
use Rattle.pg_ingest.specs.Items.{Item, AreTold, break_in, reason_of}
use Rattle.pg_ingest.specs.Commands.{tells, asks, told_in}
use Rattle.pg_ingest.specs.Linking.{Linking}
use Rattle.pg_ingest.specs.Shown.{LinkPast, ShowsLink, IsAllTold, feeding, doing, word_due}
use Rattle.pg_wire.specs.Split.{frames_in}
use Rattle.pg_gateway.specs.GatewayEvents.{GatewayEvent, Answer}
use Rattle.pg_gateway.specs.Posting.{Notes, posted_if}
use Rattle.pg_ingest.specs.Begun.{Begins}
use Rattle.pg_ingest.specs.Runs.{Step, begins, reads, posts, stepping, after_steps, events_told, wires, Ran, RanOn}
use Rattle.pg_ingest.specs.Ends.{AreFed, is_cut, pieces_in, LastRead, break_after, Why, Ends}
use Rattle.pg_ingest.specs.Transfers.{EndsRead, IsStuck}
use Rattle.pg_ingest.specs.Turning.{EndsTurn, OnlyBegins, TellsAll}
use Rattle.pg_ingest.proofs.Known.{appends_nil, notes_nil}
use Rattle.pg_ingest.proofs.Telling.{told_in-append}
use Rattle.pg_ingest.proofs.Stepping.{Bytes, Calls, Takes, after-append, from_wrote, from_step, from_more, from_begun, from_told, from_ignored}

-- ---- lists of steps

pub pieces-append : (a b : List Step) → pieces_in (a ++ b) ≡ pieces_in a ++ pieces_in b
pieces-append [] b = refl
pieces-append (begins word ∷ a) b = pieces-append a b
pieces-append (reads piece ∷ a) b = ap (λ x. piece ∷ x) (pieces-append a b)
pieces-append (posts item ∷ a) b = pieces-append a b

pub count-append : (a b : List Step) → length (pieces_in (a ++ b)) ≡ length (pieces_in a) + length (pieces_in b)
count-append a b = ap length (pieces-append a b) ∙ length-append (pieces_in a) (pieces_in b)

pieces-begins : (words : List Word) → pieces_in (map begins words) ≡ []
pieces-begins [] = refl
pieces-begins (word ∷ words) = pieces-begins words

pieces-posts : (items : List Item) → pieces_in (map posts items) ≡ []
pieces-posts [] = refl
pieces-posts (item ∷ items) = pieces-posts items

one_piece : (words : List Word) (piece : List ℕ) (items : List Item) → pieces_in (map begins words ++ reads piece ∷ map posts items) ≡ piece ∷ []
one_piece words piece items =
    pieces-append (map begins words) (reads piece ∷ map posts items)
    ∙ ap (λ x. x ++ piece ∷ pieces_in (map posts items)) (pieces-begins words)
    ∙ ap (λ x. piece ∷ x) (pieces-posts items)

stream-begins : (past : LinkPast) (words : List Word) → (after_steps past (map begins words)).stream ≡ past.stream
stream-begins past [] = refl
stream-begins past (word ∷ words) = stream-begins (stepping past (begins word)) words

stream-posts : (past : LinkPast) (items : List Item) → (after_steps past (map posts items)).stream ≡ past.stream
stream-posts past [] = refl
stream-posts past (item ∷ items) = stream-posts (stepping past (posts item)) items

pub one_told : (past : LinkPast) (word : Word) → IsAllTold past → IsAllTold (stepping past (begins word))
one_told past word told =
    subst (λ items. AreTold past.source (reverse (frames_in past.stream)) (reverse items)) (sym (told_in-append past.acts (asks word ∷ []) ∙ append-nil (told_in past.acts))) told

told-begins : (past : LinkPast) (words : List Word) → IsAllTold past → IsAllTold (after_steps past (map begins words))
told-begins past [] told = told
told-begins past (word ∷ words) told = told-begins (stepping past (begins word)) words (one_told past word told)

pub last_more : (piece : List ℕ) (a b : List Step) → LastRead piece b → LastRead piece (a ++ b)
last_more piece a b last = record {
  before = a ++ last.before;
  items = last.items;
  is = ap (λ s. a ++ s) last.is ∙ sym (append_assoc a last.before (reads piece ∷ map posts last.items));
}

pub break_more : (past : LinkPast) (a b : List Step) → break_after past (a ++ b) ≡ break_after (after_steps past a) b
break_more past a b = ap (λ (p : LinkPast). break_in p.stream) (after-append past a b)

pub told_more : (past : LinkPast) (a b : List Step) → IsAllTold (after_steps (after_steps past a) b) → IsAllTold (after_steps past (a ++ b))
told_more past a b = subst IsAllTold (sym (after-append past a b))

-- ---- only commands, only events

abbrev pub Begun : LinkPast → List Step → Type 0
Begun past steps = OnlyBegins steps

abbrev pub Posted : LinkPast → List Step → Type 0
Posted past steps = (items : List Item) × (steps ≡ map posts items)

pub begun_more : (past : LinkPast) (a b : List Step) → Begun past a → Begun (after_steps past a) b → Begun past (a ++ b)
begun_more past a b x y = (x.0 ++ y.0, ap (λ s. s ++ b) x.1 ∙ ap (λ s. map begins x.0 ++ s) y.1 ∙ sym (map-append begins x.0 y.0))

pub posted_more : (past : LinkPast) (a b : List Step) → Posted past a → Posted (after_steps past a) b → Posted past (a ++ b)
posted_more past a b x y = (x.0 ++ y.0, ap (λ s. s ++ b) x.1 ∙ ap (λ s. map posts x.0 ++ s) y.1 ∙ sym (map-append posts x.0 y.0))

pub begun_told : (past : LinkPast) (a : List Step) → Begun past a → IsAllTold past → IsAllTold (after_steps past a)
begun_told past a begun told = subst (λ s. IsAllTold (after_steps past s)) (sym begun.1) (told-begins past begun.0 told)

pub begun_none : (past : LinkPast) (a : List Step) → a ≡ [] → Begun past a
begun_none past a is = ([], is)

pub posted_none : (past : LinkPast) (a : List Step) → a ≡ [] → Posted past a
posted_none past a is = ([], is)

-- a command was begun
pub ran_begun : {t : Takes} → (v v' : Linking) (r w : Bytes) (p : Calls) → v.left ≡ [] → ((past : LinkPast) → ShowsLink v past → Begins past v' true) → RanOn Begun v v' (wires r w p t) (wires r w p t)
ran_begun v v' r w p empty gives past shows told =
    let given = gives past shows in
    let did = from_begun past v v' r w p empty told given in
    (did.0, (given.0 ∷ [], did.1))

-- what was told was posted, where the gate takes it
pub ran_told : {t : Takes} → (v v' : Linking) (r w : Bytes) (p p' : Calls) (item : Item) (o : GatewayEvent) (a : Answer) (u : Takes) → u ≡ t
    → ((past : LinkPast) → ShowsLink v past → ShowsLink v' (doing past (tells item)))
    → Notes p p' (posted_if (u o) o a) → events_told item ≡ o ∷ [] → v'.left ≡ v.left → Ran Posted v v' (wires r w p t) (wires r w p' t)
ran_told v v' r w p p' item o a u same told posted is left past shows =
    let did = from_told past v v' r w p p' item o a (told past shows) (subst (λ (x : Takes). Notes p p' (posted_if (x o) o a)) same posted) is left in
    (did.0, (item ∷ [], did.1))

-- a frame was ignored
pub ran_ignored : {t : Takes} → (v v' : Linking) (r w : Bytes) (p : Calls) (refusal : Refusal)
    → ((past : LinkPast) → ShowsLink v past → (item : Item) × (reason_of item ≡ Some refusal) × ShowsLink v' (doing past (tells item))) → v'.left ≡ v.left → Ran Posted v v' (wires r w p t) (wires r w p t)
ran_ignored v v' r w p refusal gives left past shows =
    let given = gives past shows in
    let did = from_ignored past v v' r w p refusal given.0 given.1 given.2 left in
    (did.0, (given.0 ∷ [], did.1))

-- the events were told, and there are no more
pub ran_told_all : {t : Takes} → (v v' v'' : Linking) (r w : Bytes) (p p' : Calls) (broken : Option Refusal) → Ran Posted v v' (wires r w p t) (wires r w p' t)
    → ((past : LinkPast) → ShowsLink v' past → IsAllTold past × (break_in past.stream ≡ broken) × ShowsLink v'' past) → v''.left ≡ v'.left → Ran (TellsAll broken) v v'' (wires r w p t) (wires r w p' t)
ran_told_all v v' v'' r w p p' broken first gives left past shows =
    let a = first past shows in
    let now = after_steps past a.0.steps in
    let given = gives now a.0.shows in
    let b = from_wrote now v'.left v'' r w w p' [] (appends_nil w) left given.2 in
    let both = from_more past v.left v' v'' r r r w w w p p' p' a.0 b.0 in
    let same : both.0.steps ≡ a.0.steps = both.1 ∙ ap (λ s. a.0.steps ++ s) b.1 ∙ append-nil a.0.steps in
    (both.0, subst (TellsAll broken past) (sym same) (a.1, given.0, given.1))

-- ---- a whole turn

abbrev pub Completes : List ℕ → Option Refusal → LinkPast → List Step → Type 0
Completes piece broken past steps =
    LastRead piece steps × (pieces_in steps ≡ piece ∷ []) × IsAllTold (after_steps past steps) × (break_after past steps ≡ broken)

pub turn_done : {t : Takes} → (v v1 v2 v3 : Linking) (r r' w w' : Bytes) (p p' : Calls) (piece : List ℕ) (broken : Option Refusal)
    → RanOn Begun v v1 (wires r w p t) (wires r w' p t) → ((past : LinkPast) → ShowsLink v1 past → word_due past ≡ None)
    → length piece ≤ 4096 → Consumes r r' piece → ((past : LinkPast) → ShowsLink v1 past → ShowsLink v2 (feeding past piece)) → v2.left ≡ v1.left
    → Ran (TellsAll broken) v2 v3 (wires r' w' p t) (wires r' w' p' t) → RanOn (Completes piece broken) v v3 (wires r w p t) (wires r' w' p' t)
turn_done v v1 v2 v3 r r' w w' p p' piece broken asked none small read fed left tell past shows told =
    let a = asked past shows told in
    let now = after_steps past a.0.steps in
    let told_now : IsAllTold now = begun_told past a.0.steps a.1 told in
    let b = from_step now v1.left v2 r r' w' p p (reads piece) [] (told_now, none now a.0.shows, small) (fed now a.0.shows) read (notes_nil p) refl (left ∙ sym (append-nil v1.left)) in
    let ab = from_more past v.left v1 v2 r r r' w w' w' p p p a.0 b.0 in
    let c = tell (after_steps past ab.0.steps) ab.0.shows in
    let all = from_more past v.left v2 v3 r r' r' w w' w' p p p' ab.0 c.0 in
    let is : all.0.steps ≡ a.0.steps ++ reads piece ∷ map posts c.1.0.0 =
    all.1 ∙ ap (λ s. s ++ c.0.steps) (ab.1 ∙ ap (λ s. a.0.steps ++ s) b.1) ∙ append_assoc a.0.steps (reads piece ∷ []) c.0.steps
    ∙ ap (λ s. a.0.steps ++ reads piece ∷ s) c.1.0.1 in (
      all.0,
      (
        record { before = a.0.steps; items = c.1.0.0; is = is },
        ap pieces_in (is ∙ ap (λ s. s ++ reads piece ∷ map posts c.1.0.0) a.1.1) ∙ one_piece a.1.0 piece c.1.0.0,
        subst (λ s. IsAllTold (after_steps past s)) (sym all.1) (told_more past ab.0.steps c.0.steps c.1.1),
        ap (break_after past) all.1 ∙ break_more past ab.0.steps c.0.steps ∙ c.1.2,
      ),
    )

-- a turn goes on
pub goes_on : (left piece : List ℕ) (r : Bytes) (past : LinkPast) (steps : List Step) → piece ≢ [] → Completes piece None past steps → EndsTurn None left r past steps
goes_on left piece r past steps some done = (done.2, (piece, some, done.1, done.0), done.3)

-- a turn ends where its bytes break
pub ends_broken : (left piece : List ℕ) (r : Bytes) (n : ℕ) (refusal : Refusal) (past : LinkPast) (steps : List Step) → is_cut (Fault n) ≡ false → n ≡ number_of refusal
    → Completes piece (Some refusal) past steps → EndsTurn (Some (Fault n)) left r past steps
ends_broken left piece r n refusal past steps uncut is done = (
  done.2,
  omega (arith, ap length done.1),
  λ _. (piece, done.0),
  inr (inr (refusal, is, done.3)),
  λ cut. absurd (let wrong : false ≡ true = sym uncut ∙ cut in cc),
)

-- a turn goes on or ends as its read did
pub ends_or_goes : (end : Option End) (left piece : List ℕ) (r : Bytes) → EndsRead end piece r
    → (past : LinkPast) (steps : List Step) → Completes piece None past steps → EndsTurn end left r past steps
ends_or_goes None left piece r is past steps done = goes_on left piece r past steps is done
ends_or_goes (Some Closed) left piece r is past steps done =
    (done.2, omega (arith, ap length done.1), λ _. (piece, done.0), (is.1, subst (λ x. LastRead x steps) is.0 done.0, done.3), λ cut. absurd (cc))
ends_or_goes (Some Quiet) left piece r is past steps done =
    (done.2, omega (arith, ap length done.1), λ _. (piece, done.0), (subst (λ x. LastRead x steps) is done.0, done.3), λ cut. absurd (cc))
ends_or_goes (Some Stalled) left piece r is past steps done = absurd is
ends_or_goes (Some (Fault n)) left piece r is past steps done = (
  done.2,
  omega (arith, ap length done.1),
  λ _. (piece, done.0),
  inr (inl (is.0, subst (λ x. LastRead x steps) is.1 done.0, done.3)),
  λ cut. absurd (let wrong : false ≡ true = sym (ap (λ n. is_cut (Fault n)) is.0) ∙ cut in cc),
)

uncut_break : (n : ℕ) → n ≤ 4 → is_cut (Fault n) ≡ false
uncut_break n small = by (n == 40) refl
  where
    by : (b : Bool) → (n == 40) ≡ b → b ≡ false
    by true is = absurd (omega (arith, small, eqb-true n 40 is))
    by false is = refl

pub ends_break : (left piece : List ℕ) (r : Bytes) (n : ℕ) (refusal : Refusal) → n ≡ number_of refusal → IsBreak refusal → (past : LinkPast) (steps : List Step)
    → Completes piece (Some refusal) past steps → EndsTurn (Some (Fault n)) left r past steps
ends_break left piece r n refusal is breaks past steps done =
    ends_broken left piece r n refusal past steps (uncut_break n (omega (arith, is, breaks.1))) is done

-- a turn ends where a write was cut short
ends_cut : (end : End) (left : List ℕ) (r : Bytes) (past : LinkPast) (steps : List Step) → IsStuck end left → Begun past steps → IsAllTold past → EndsTurn (Some end) left r past steps
ends_cut Closed left r past steps is begun told = absurd is
ends_cut Quiet left r past steps is begun told = absurd is
ends_cut Stalled left r past steps is begun told = (
  begun_told past steps begun told,
  omega (arith, ap (λ s. length (pieces_in s)) begun.1 ∙ ap length (pieces-begins begun.0)),
  λ uncut. absurd (cc),
  is,
  λ cut unbroken. ap (break_after past) begun.1 ∙ ap break_in (stream-begins past begun.0) ∙ unbroken,
)
ends_cut (Fault n) left r past steps is begun told = (
  begun_told past steps begun told,
  omega (arith, ap (λ s. length (pieces_in s)) begun.1 ∙ ap length (pieces-begins begun.0)),
  λ uncut. absurd (let wrong : true ≡ false = sym (ap (λ n. is_cut (Fault n)) is.0) ∙ uncut in cc),
  inl is,
  λ cut unbroken. ap (break_after past) begun.1 ∙ ap break_in (stream-begins past begun.0) ∙ unbroken,
)

pub turn_cut : {t : Takes} → (v v' : Linking) (r w w' : Bytes) (p : Calls) (end : End) → IsStuck end v'.left → RanOn Begun v v' (wires r w p t) (wires r w' p t) → RanOn (EndsTurn (Some end) v'.left r) v v' (wires r w p t) (wires r w' p t)
turn_cut v v' r w w' p end is ran past shows told = let a = ran past shows told in (a.0, ends_cut end v'.left r past a.0.steps is a.1 told)

pub turn_as : {t : Takes} → (P Q : LinkPast → List Step → Type 0) → ((past : LinkPast) (a : List Step) → P past a → Q past a)
    → (v v' : Linking) (r r' w w' : Bytes) (p p' : Calls) → RanOn P v v' (wires r w p t) (wires r' w' p' t) → RanOn Q v v' (wires r w p t) (wires r' w' p' t)
turn_as P Q is v v' r r' w w' p p' ran past shows told = let a = ran past shows told in (a.0, is past a.0.steps a.1)

-- ---- the turns of a call

-- So many turns were done, and the call goes on.
pub record Turned (n : ℕ) (past : LinkPast) (steps : List Step) : Type 0 where
  pub told : IsAllTold (after_steps past steps)
  pub count : length (pieces_in steps) ≡ n
  pub full : All (λ piece. piece ≢ []) (pieces_in steps)
  pub last : 0 < n → (piece : List ℕ) × LastRead piece steps
  pub unbroken : 0 < n → break_after past steps ≡ None
  pub stays : break_in past.stream ≡ None → break_after past steps ≡ None

fed-append : (a b : List (List ℕ)) → All (λ p. p ≢ []) a → AreFed b → AreFed (a ++ b)
fed-append [] b all fed = fed
fed-append (piece ∷ a) b all fed =
    (λ empty. absurd (All-head (λ p. p ≢ []) piece a all empty), fed-append a b (All-tail (λ p. p ≢ []) piece a all) fed)

fed-one : (b : List (List ℕ)) → length b ≤ 1 → AreFed b
fed-one [] few = tt
fed-one (piece ∷ []) few = (λ empty. refl, tt)
fed-one (piece ∷ other ∷ b) few = absurd (omega (arith, few))

pub turned_none : (broken : Option Refusal) (past : LinkPast) (steps : List Step) → TellsAll broken past steps → Turned 0 past steps
turned_none broken past steps is = record {
  told = is.1;
  count = ap (λ s. length (pieces_in s)) is.0.1 ∙ ap length (pieces-posts is.0.0);
  full = subst (All (λ piece. piece ≢ [])) (sym (ap pieces_in is.0.1 ∙ pieces-posts is.0.0)) (All-nil (λ piece. piece ≢ []));
  last = λ h. absurd (omega (arith, h));
  unbroken = λ h. absurd (omega (arith, h));
  stays = λ none. ap (break_after past) is.0.1 ∙ ap break_in (stream-posts past is.0.0) ∙ none;
}

pub turned_more : (n : ℕ) (result : Option End) → result ≡ None → (left : List ℕ) (r : Bytes) (past : LinkPast) (a b : List Step) → Turned n past a → EndsTurn result left r (after_steps past a) b → Turned (n + 1) past (a ++ b)
turned_more n result none left r past a b before ends = let turn = subst (λ o. EndsTurn o left r (after_steps past a) b) none ends in record {
  told = told_more past a b turn.0;
  count = omega (arith, count-append a b, before.count, ap length turn.1.2);
  full = subst (All (λ piece. piece ≢ [])) (sym (pieces-append a b ∙ ap (λ x. pieces_in a ++ x) turn.1.2))
      (All-append (λ p. p ≢ []) (pieces_in a) (turn.1.0 ∷ []) before.full (All-cons (λ p. p ≢ []) turn.1.0 [] turn.1.1 (All-nil (λ p. p ≢ []))));
  last = λ h. (turn.1.0, last_more turn.1.0 a b turn.1.3);
  unbroken = λ h. break_more past a b ∙ turn.2;
  stays = λ h. break_more past a b ∙ turn.2;
}

why_more : (end : End) (left : List ℕ) (r : Bytes) (past : LinkPast) (a b : List Step) → Why end left r (after_steps past a) b → Why end left r past (a ++ b)
why_more Closed left r past a b why = (why.0, last_more [] a b why.1, break_more past a b ∙ why.2)
why_more Quiet left r past a b why = (last_more [] a b why.0, break_more past a b ∙ why.1)
why_more Stalled left r past a b why = why
why_more (Fault n) left r past a b (inl why) = inl why
why_more (Fault n) left r past a b (inr (inl why)) = inr (inl (why.0, last_more [] a b why.1, break_more past a b ∙ why.2))
why_more (Fault n) left r past a b (inr (inr why)) = inr (inr (why.0, why.1, break_more past a b ∙ why.2))

pub ends_call : (end : End) (n turns : ℕ) (left : List ℕ) (r : Bytes) → n < turns → (past : LinkPast) (a b : List Step) → Turned n past a → EndsTurn (Some end) left r (after_steps past a) b
    → Ends end turns left r past (a ++ b)
ends_call end n turns left r more past a b before turn = record {
  told = told_more past a b turn.0;
  few = omega (arith, count-append a b, before.count, turn.1, more);
  fed = subst AreFed (sym (pieces-append a b)) (fed-append (pieces_in a) (pieces_in b) before.full (fed-one (pieces_in b) turn.1));
  last = λ uncut _. let last = turn.2 uncut in (last.0, last_more last.0 a b last.1);
  why = inl (why_more end left r past a b turn.3);
  cut = λ is none. break_more past a b ∙ turn.4 is (before.stays none);
}

pub ends_all : (n turns : ℕ) (left : List ℕ) (r : Bytes) → n ≡ turns → (past : LinkPast) (a : List Step) → Turned n past a → Ends (Fault 39) turns left r past a
ends_all n turns left r all past a turned = let done = subst (λ k. Turned k past a) all turned in record {
  told = done.told;
  few = omega (arith, done.count);
  fed = subst AreFed (append-nil (pieces_in a)) (fed-append (pieces_in a) [] done.full tt);
  last = λ _ some. done.last some;
  why = inr (record { end_is = refl; all = done.count; full = done.full; unbroken = done.unbroken });
  cut = λ is. absurd (cc);
}
