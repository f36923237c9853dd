-- Legal turns that tell no loss and no want of memory are a function of their inputs.
use Rattle.std.proofs.Common.{◌≡◌, ◌≢◌, ℕ, ◌==◌, ◌||◌, nat_eq, cond, Bool, true, false, if◌then◌else◌, List, [], ◌∷◌, ◌++◌, length, map, drop, reverse, Option, Some, None, inl, inr, refl, sym, ap, ap₂, ◌∙◌, subst}
use Rattle.std.specs.List.{list_any}
use Rattle.std.proofs.lemmas.Grind.{flat_map-append}
use Rattle.std.proofs.lemmas.List.{append-nil, map-append}
use Rattle.std.specs.Map.{lookup, set_value, remove_entry}
use Rattle.std.proofs.Math.Seq.{drop-append_seam}
use Rattle.indexmap.specs.IndexMap.{insert_entry}
use Rattle.pg_wire.specs.declared.refusal.Refusal.{Refusal}
use Rattle.pg_wire.specs.declared.refusal.Refusal.TheVariants.{NoMemory}
use Rattle.pg_wire.specs.Number.{number_of}
use Rattle.pg_ingest.specs.Items as link
use Rattle.pg_ingest.specs.Items.{is_want, told_of, break_in}
use Rattle.pg_ingest.specs.Commands.{Act, tells, asks, told_in}
use Rattle.pg_ingest.specs.Shown.{IsAllTold}
use Rattle.pg_ingest.proofs.Past.{told_of-only}
use Rattle.pg_gateway.specs.GatewayEvents.{GatewayEvent, add_pmu, drop_pmu, add_sub, drop_sub, grant, asks as asks_for, announce, measure, tick, Answer, inquires}
use Rattle.pg_gateway.specs.State.{SharedMachine, opening as shared_opening, next}
use Rattle.pg_gateway.specs.Histories.{Legal, state_after}
use Rattle.pg_gateway.specs.Views.{full_answer, full_answers, shared_step, shared_run}
use Rattle.pg_gateway.specs.Laws.{events_of, answers_of}
use Rattle.pg_gateway.proofs.AnswerLaws.{lossless_full}
use Rattle.pg_serve.specs.Inputs.{InputValue, link_up, pmu_bytes, sub_bytes, names}
use Rattle.pg_serve.specs.Actions.{Action, posts, ignores_frame, closes, refuses, Effect, answered, ignored_frame, closed_at, refused, action_of, notes_of, pairs_of, told_action, link_action, close}
use Rattle.pg_serve.specs.WorldStates.{SourceLinkPast, WorldState, opening, Turn, Turns, ToldOf, Posts, Makes, LegalTurn, LegalTurns, after_turn, after_turns, all_outcomes, inputs_of, history_of, telling, lines_by, lines_named, has_source, new_source_link, gone_up, gives_all, fed_line, words_given, put_line, line_after, all_given}
use Rattle.pg_serve.specs.Full.{full_effects, told_more, told_actions, full_told, actions_of, full_turn, full_turns, world_state_of, events_made, events_at, answers_made}
use Rattle.pg_serve.specs.Headline.{NotesLossless, OutcomesLossless}
use Rattle.pg_shared.proofs.Opening.{no_frames}
use Rattle.pg_serve.proofs.Lines.{told_gave}

-- ---- effects

effects_full : (S : SharedMachine) (effects : List Effect) → Legal S (pairs_of effects) → NotesLossless (notes_of effects) → effects ≡ full_effects S (map action_of effects)
effects_full S [] legal lossless = refl
effects_full S (answered e a ∷ effects) legal lossless =
    let is : a ≡ full_answer S e = lossless_full S e a legal.0 lossless.0 in
    ap₂ (λ b ds. answered e b ∷ ds) is
    (effects_full (shared_step S e) effects (subst (λ b. Legal (next S e b) (pairs_of effects)) is legal.1) lossless.1)
effects_full S (ignored_frame r ∷ effects) legal lossless = ap (λ ds. ignored_frame r ∷ ds) (effects_full S effects legal lossless.1)
effects_full S (closed_at r ∷ effects) legal lossless = ap (λ ds. closed_at r ∷ ds) (effects_full S effects legal lossless)
effects_full S (refused r ∷ effects) legal lossless = ap (λ ds. refused r ∷ ds) (effects_full S effects legal lossless.1)

-- what is due tells no want of memory
abbrev ActionLossless : Action → Type 0
ActionLossless (posts e) = Unit {0}
ActionLossless (ignores_frame r) = r ≢ NoMemory
ActionLossless (closes r) = Unit {0}
ActionLossless (refuses r) = r ≢ NoMemory

abbrev ActionsLossless : List Action → Type 0
ActionsLossless [] = Unit {0}
ActionsLossless (d ∷ actions) = ActionLossless d × ActionsLossless actions

actions_lossless : (effects : List Effect) → NotesLossless (notes_of effects) → ActionsLossless (map action_of effects)
actions_lossless [] h = tt
actions_lossless (answered e a ∷ effects) h = (tt, actions_lossless effects h.1)
actions_lossless (ignored_frame r ∷ effects) h = (h.0, actions_lossless effects h.1)
actions_lossless (closed_at r ∷ effects) h = (tt, actions_lossless effects h)
actions_lossless (refused r ∷ effects) h = (h.0, actions_lossless effects h.1)

-- ---- what is told

number_plain : (r : Refusal) → r ≢ NoMemory → (number_of r == number_of NoMemory) ≡ false
number_plain NoMemory h = absurd (h refl)
number_plain r h = refl

item_plain : (item : link.Item) → ActionLossless (told_action item) → is_want item ≡ false
item_plain (link.announces config) h = refl
item_plain (link.measures m) h = refl
item_plain (link.skips r) h = number_plain r h
item_plain (link.rejects_config r) h = number_plain r h
item_plain (link.rejects_data r) h = number_plain r h
item_plain link.passes_over h = refl

items_plain : (items : List link.Item) (more : List Action) → ActionsLossless (map told_action items ++ more) → list_any is_want items ≡ false
items_plain [] more h = refl
items_plain (item ∷ items) more h = ap₂ (λ a b. a || b) (item_plain item h.0) (items_plain items more h.1)

plain-append : (items more : List link.Item) → list_any is_want items ≡ false → list_any is_want more ≡ false → list_any is_want (items ++ more) ≡ false
plain-append [] more h k = k
plain-append (item ∷ items) more h k = by (is_want item) refl h (plain-append items more)
  where
    by : (b : Bool) → is_want item ≡ b → (b || list_any is_want items) ≡ false
        → (list_any is_want items ≡ false → list_any is_want more ≡ false → list_any is_want (items ++ more) ≡ false)
        → (is_want item || list_any is_want (items ++ more)) ≡ false
    by true e none rest = absurd (cc)
    by false e none rest = ap (λ b. b || list_any is_want (items ++ more)) e ∙ rest none k

told_tells : (acts : List Act) (items : List link.Item) → told_in (acts ++ map tells items) ≡ told_in acts ++ items
told_tells [] [] = refl
told_tells [] (item ∷ items) = ap (λ is. item ∷ is) (told_tells [] items)
told_tells (tells item ∷ acts) items = ap (λ is. item ∷ is) (told_tells acts items)
told_tells (asks word ∷ acts) items = told_tells acts items

-- A line told all that its bytes make, and no want of memory.
pub record IsFull (line : SourceLinkPast) : Type 0 where
  pub all : told_in line.link.acts ≡ told_of line.link.source line.link.stream
  pub plain : list_any is_want (told_in line.link.acts) ≡ false

full_begun : (source : ℕ) → told_of source [] ≡ []
full_begun source = ap (λ frames. reverse (link.told_back source (reverse frames))) no_frames

full_new : (s : ℕ) → IsFull (new_source_link s)
full_new s = record { all = sym (full_begun s); plain = refl }

full_gone : (line : SourceLinkPast) → IsFull (gone_up line)
full_gone line = record { all = sym (full_begun line.link.source); plain = refl }

full_given : (line : SourceLinkPast) → IsFull line → IsFull (gives_all line)
full_given line full = record {
  all = told_gave line.link.acts (words_given line) ∙ full.all;
  plain = ap (list_any is_want) (told_gave line.link.acts (words_given line)) ∙ full.plain;
}

full_fed : (line : SourceLinkPast) (piece : List ℕ) (items : List link.Item) → IsFull line → IsAllTold (telling line.link piece items) → list_any is_want items ≡ false
    → IsFull (fed_line line piece items)
full_fed line piece items full told none =
    let is : told_in (line.link.acts ++ map tells items) ≡ told_in line.link.acts ++ items = told_tells line.link.acts items in
    let all : list_any is_want (told_in (line.link.acts ++ map tells items)) ≡ false =
    ap (list_any is_want) is ∙ plain-append (told_in line.link.acts) items full.plain none in
    record { all = told_of-only line.link.source (line.link.stream ++ piece) (told_in (line.link.acts ++ map tells items)) told all; plain = all }

-- so what is told more is what its bytes make more
told_only : (line : SourceLinkPast) (piece : List ℕ) (items : List link.Item) → IsFull line → IsFull (fed_line line piece items) → items ≡ told_more piece (Some line)
told_only line piece items before after =
    let is : told_of line.link.source (line.link.stream ++ piece) ≡ told_of line.link.source line.link.stream ++ items =
    sym after.all ∙ told_tells line.link.acts items ∙ ap (λ is. is ++ items) before.all in
    sym (ap (drop (length (told_of line.link.source line.link.stream))) is ∙ drop-append_seam (told_of line.link.source line.link.stream) items)

-- ---- all lines

abbrev pub AllFull : List (ℕ × SourceLinkPast) → Type 0
AllFull [] = Unit {0}
AllFull (x ∷ xs) = IsFull x.1 × AllFull xs

pub full_lookup : (test : ℕ → Bool) (lines : List (ℕ × SourceLinkPast)) (line : SourceLinkPast) → AllFull lines → lookup test lines ≡ Some line → IsFull line
full_lookup test [] line full found = absurd (cc)
full_lookup test (x ∷ xs) line full found = by (test x.0) found (full_lookup test xs line full.1)
  where
    by : (b : Bool) → cond b (Some x.1) (lookup test xs) ≡ Some line → (lookup test xs ≡ Some line → IsFull line) → IsFull line
    by true e rest = let same : x.1 ≡ line = cc in subst IsFull same full.0
    by false e rest = rest e

full_set : (test : ℕ → Bool) (line : SourceLinkPast) → IsFull line → (lines : List (ℕ × SourceLinkPast)) → AllFull lines → AllFull (set_value test lines line)
full_set test line new [] full = tt
full_set test line new (x ∷ xs) full = by (test x.0) (full_set test line new xs full.1)
  where
    by : (b : Bool) → AllFull (set_value test xs line) → AllFull (cond b ((x.0, line) ∷ xs) (x ∷ set_value test xs line))
    by true rest = (new, full.1)
    by false rest = (full.0, rest)

full_remove : (test : ℕ → Bool) (lines : List (ℕ × SourceLinkPast)) → AllFull lines → AllFull (remove_entry test lines)
full_remove test [] full = tt
full_remove test (x ∷ xs) full = by (test x.0) (full_remove test xs full.1)
  where
    by : (b : Bool) → AllFull (remove_entry test xs) → AllFull (cond b xs (x ∷ remove_entry test xs))
    by true rest = full.1
    by false rest = (full.0, rest)

full_insert : (s : ℕ) (line : SourceLinkPast) → IsFull line → (lines : List (ℕ × SourceLinkPast)) → AllFull lines → AllFull (insert_entry nat_eq lines s line)
full_insert s line new [] full = (new, tt)
full_insert s line new (x ∷ xs) full = by (nat_eq s x.0) (full_insert s line new xs full.1)
  where
    by : (b : Bool) → AllFull (insert_entry nat_eq xs s line) → AllFull (if b then (x.0, line) ∷ xs else x ∷ insert_entry nat_eq xs s line)
    by true rest = (new, full.1)
    by false rest = (full.0, rest)

full_by : (lines : List (ℕ × SourceLinkPast)) (S T : SharedMachine) (e : GatewayEvent) (done : Bool) → AllFull lines → AllFull (lines_by lines S T e done)
full_by lines S T (add_pmu key) false full = full
full_by lines S T (add_pmu key) true full = by (has_source S key.source)
  where
    by : (b : Bool) → AllFull (if b then lines else insert_entry nat_eq lines key.source (new_source_link key.source))
    by true = full
    by false = full_insert key.source (new_source_link key.source) (full_new key.source) lines full
full_by lines S T (drop_pmu key) done full = by (has_source T key.source)
  where
    by : (b : Bool) → AllFull (if b then lines else remove_entry (nat_eq key.source) lines)
    by true = full
    by false = full_remove (nat_eq key.source) lines full
full_by lines S T (add_sub u size bytes) done full = full
full_by lines S T (drop_sub u) done full = full
full_by lines S T (grant u key) done full = full
full_by lines S T (asks_for u x) done full = full
full_by lines S T (announce config) done full = full
full_by lines S T (measure m) done full = full
full_by lines S T (tick soc) done full = full
full_by lines S T (inquires q) done full = full

full_named : (lines : List (ℕ × SourceLinkPast)) (S T : SharedMachine) (pairs : List (GatewayEvent × Answer)) → AllFull lines → AllFull (lines_named lines S T pairs)
full_named lines S T [] full = full
full_named lines S T (x ∷ xs) full = full_by lines S T x.0 _ full

-- ---- one turn

abbrev turn : InputValue → List Effect → List link.Item → Turn
turn f effects told = record { input = f; effects = effects; told = told }

fed_full : (m : WorldState) (s : ℕ) (piece : List ℕ) (line : SourceLinkPast) (items : List link.Item) (actions : List Action) → AllFull m.lines → lookup (nat_eq s) m.lines ≡ Some line
    → ToldOf piece (Some line) items actions → ActionsLossless actions → IsFull (fed_line line piece items)
fed_full m s piece line items actions full found makes lossless =
    full_fed line piece items (full_lookup (nat_eq s) m.lines line full found) makes.0
    (items_plain items (close (break_in (line.link.stream ++ piece))) (subst ActionsLossless makes.1 lossless))

makes_full : (m : WorldState) (f : InputValue) (items : List link.Item) (actions : List Action) → AllFull m.lines → Makes m f items actions → ActionsLossless actions
    → (items ≡ full_told m f) × (actions ≡ actions_of m f)
makes_full m (link_up s) items actions full makes lossless = makes
makes_full m (pmu_bytes s piece) items actions full makes lossless = by (lookup (nat_eq s) m.lines) refl makes
  where
    by : (o : Option SourceLinkPast) → lookup (nat_eq s) m.lines ≡ o → ToldOf piece o items actions → (items ≡ told_more piece o) × (actions ≡ told_actions piece o)
    by None e none = none
    by (Some line) e some =
        let is = told_only line piece items (full_lookup (nat_eq s) m.lines line full e) (fed_full m s piece line items actions full e some lossless) in
        (is, some.1 ∙ ap (λ x. link_action x (break_in (line.link.stream ++ piece))) is)
makes_full m (sub_bytes u piece) items actions full makes lossless = makes
makes_full m (names e) items actions full makes lossless = (makes.0, by makes.1)
  where
    by : Posts m.shared e actions → actions ≡ posts e ∷ []
    by (inl is) = is
    by (inr want) = absurd ((subst ActionsLossless want.0 lossless).0 refl)

turn_full : (m : WorldState) (t : Turn) → AllFull m.lines → LegalTurn m t → NotesLossless (notes_of t.effects) → t ≡ full_turn m t.input
turn_full m t full legal lossless =
    let made = makes_full m t.input t.told (map action_of t.effects) full legal.makes (actions_lossless t.effects lossless) in
    ap₂ (λ effects told. turn t.input effects told)
    (effects_full m.shared t.effects legal.legal lossless ∙ ap (full_effects m.shared) made.1) made.0

lines_full : (m : WorldState) (f : InputValue) (effects : List Effect) (told : List link.Item) → AllFull m.lines → Makes m f told (map action_of effects) → ActionsLossless (map action_of effects)
    → AllFull (after_turn m (turn f effects told)).lines
lines_full m (link_up s) effects told full makes lossless = by (lookup (nat_eq s) m.lines)
  where
    by : (o : Option SourceLinkPast) → AllFull (put_line s m.lines (all_given (line_after (link_up s) told o)))
    by None = full
    by (Some line) = full_set (nat_eq s) (gives_all (gone_up line)) (full_given (gone_up line) (full_gone line)) m.lines full
lines_full m (pmu_bytes s piece) effects told full makes lossless = by (lookup (nat_eq s) m.lines) refl makes
  where
    by : (o : Option SourceLinkPast) → lookup (nat_eq s) m.lines ≡ o → ToldOf piece o told (map action_of effects)
        → AllFull (put_line s m.lines (all_given (line_after (pmu_bytes s piece) told o)))
    by None e none = full
    by (Some line) e some =
        full_set (nat_eq s) (gives_all (fed_line line piece told))
        (full_given (fed_line line piece told) (fed_full m s piece line told (map action_of effects) full e some lossless)) m.lines full
lines_full m (sub_bytes u piece) effects told full makes lossless = full
lines_full m (names e) effects told full makes lossless = full_named m.lines m.shared (state_after m.shared (pairs_of effects)) (pairs_of effects) full

-- ---- all turns

turns_full : (m : WorldState) (ts : Turns) → AllFull m.lines → LegalTurns m ts → OutcomesLossless (all_outcomes m ts) → ts ≡ full_turns m (inputs_of ts)
turns_full m [] full legal lossless = refl
turns_full m (t ∷ ts) full legal lossless =
    let is = turn_full m t full legal.0 lossless.0 in
    let lines = lines_full m t.input t.effects t.told full legal.0.makes (actions_lossless t.effects lossless.0) in
    let rest = turns_full (after_turn m t) ts lines legal.1 lossless.1 in
    subst (λ x. t ∷ ts ≡ x ∷ full_turns (after_turn m x) (inputs_of ts)) is (ap (λ us. t ∷ us) rest)

full_after : (m : WorldState) (ts : Turns) → AllFull m.lines → LegalTurns m ts → OutcomesLossless (all_outcomes m ts) → AllFull (after_turns m ts).lines
full_after m [] full legal lossless = full
full_after m (t ∷ ts) full legal lossless =
    full_after (after_turn m t) ts (lines_full m t.input t.effects t.told full legal.0.makes (actions_lossless t.effects lossless.0)) legal.1 lossless.1

pub lines_are_full : (ts : Turns) → LegalTurns opening ts → OutcomesLossless (all_outcomes opening ts) → AllFull (after_turns opening ts).lines
lines_are_full ts legal lossless = full_after opening ts tt legal lossless

pub turns_are_full : (ts : Turns) → LegalTurns opening ts → OutcomesLossless (all_outcomes opening ts) → ts ≡ full_turns opening (inputs_of ts)
turns_are_full ts legal lossless = turns_full opening ts tt legal lossless

-- ---- the events of full turns are answered in full

abbrev IsFullRun : SharedMachine → List (GatewayEvent × Answer) → Type 0
IsFullRun S [] = Unit {0}
IsFullRun S (x ∷ xs) = (x.1 ≡ full_answer S x.0) × IsFullRun (next S x.0 x.1) xs

run-append : (S : SharedMachine) (h k : List (GatewayEvent × Answer)) → IsFullRun S h → IsFullRun (state_after S h) k → IsFullRun S (h ++ k)
run-append S [] k full more = more
run-append S (x ∷ xs) k full more = (full.0, run-append (next S x.0 x.1) xs k full.1 more)

effects_run : (S : SharedMachine) (actions : List Action) → IsFullRun S (pairs_of (full_effects S actions))
effects_run S [] = tt
effects_run S (posts e ∷ actions) = (refl, effects_run (shared_step S e) actions)
effects_run S (ignores_frame r ∷ actions) = effects_run S actions
effects_run S (closes r ∷ actions) = effects_run S actions
effects_run S (refuses r ∷ actions) = effects_run S actions

history_run : (m : WorldState) (inputs : List InputValue) → IsFullRun m.shared (history_of (full_turns m inputs))
history_run m [] = tt
history_run m (f ∷ inputs) =
    run-append m.shared (pairs_of (full_effects m.shared (actions_of m f))) (history_of (full_turns (after_turn m (full_turn m f)) inputs))
    (effects_run m.shared (actions_of m f)) (history_run (after_turn m (full_turn m f)) inputs)

run_answers : (S : SharedMachine) (h : List (GatewayEvent × Answer)) → IsFullRun S h → answers_of h ≡ full_answers S (events_of h)
run_answers S [] full = refl
run_answers S (x ∷ h) full =
    let same : next S x.0 x.1 ≡ shared_step S x.0 = ap (λ a. next S x.0 a) full.0 in
    ap₂ (λ a answers. a ∷ answers) full.0 (run_answers (shared_step S x.0) h (subst (λ T. IsFullRun T h) same full.1))

run_state : (S : SharedMachine) (h : List (GatewayEvent × Answer)) → IsFullRun S h → state_after S h ≡ shared_run S (events_of h)
run_state S [] full = refl
run_state S (x ∷ h) full =
    let same : next S x.0 x.1 ≡ shared_step S x.0 = ap (λ a. next S x.0 a) full.0 in
    ap (λ T. state_after T h) same ∙ run_state (shared_step S x.0) h (subst (λ T. IsFullRun T h) same full.1)

pub state_is_full : (inputs : List InputValue) → state_after shared_opening (history_of (full_turns opening inputs)) ≡ shared_run shared_opening (events_made inputs)
state_is_full inputs = run_state shared_opening (history_of (full_turns opening inputs)) (history_run opening inputs)

pub answers_are_full : (inputs : List InputValue) → answers_made inputs ≡ full_answers shared_opening (events_made inputs)
answers_are_full inputs = run_answers shared_opening (history_of (full_turns opening inputs)) (history_run opening inputs)

-- ---- more inputs

full_turns-append : (m : WorldState) (is js : List InputValue) → full_turns m (is ++ js) ≡ full_turns m is ++ full_turns (after_turns m (full_turns m is)) js
full_turns-append m [] js = refl
full_turns-append m (f ∷ is) js = ap (λ ts. full_turn m f ∷ ts) (full_turns-append (after_turn m (full_turn m f)) is js)

pub events-more : (inputs : List InputValue) (f : InputValue) → events_made (inputs ++ f ∷ []) ≡ events_made inputs ++ events_at inputs f
events-more inputs f =
    let more = full_turn (world_state_of inputs) f in
    ap (λ ts. events_of (history_of ts)) (full_turns-append opening inputs (f ∷ []))
    ∙ ap events_of (flat_map-append (λ t. pairs_of t.effects) (full_turns opening inputs) (more ∷ []) ∙ ap (λ pairs. history_of (full_turns opening inputs) ++ pairs) (append-nil (pairs_of more.effects)))
    ∙ map-append (λ (x : GatewayEvent × Answer). x.0) (history_of (full_turns opening inputs)) (pairs_of more.effects)
