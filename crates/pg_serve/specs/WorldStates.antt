-- The model of a world: what its inputs make of it, one after another.
use Rattle.std.specs.Prelude.{◌≡◌, ◌⊎◌, ℕ, nat_eq, Bool, true, false, if◌then◌else◌, is_some, List, [], ◌∷◌, ◌++◌, map, Option, Some, None}
use Rattle.std.specs.List.{flat_map}
use Rattle.std.specs.Map.{lookup, set_value, remove_entry}
use Rattle.indexmap.specs.IndexMap.{insert_entry}
use Rattle.pg_wire.specs.declared.refusal.Refusal.{Refusal}
use Rattle.pg_wire.specs.declared.refusal.Refusal.TheVariants.{NoMemory, NoSuchPmu, NoSuchSub, NotConnected}
use Rattle.pg_command.specs.declared.word.Word.{Word}
use Rattle.pg_registry.specs.Registered as registered
use Rattle.pg_session.specs.Events as session
use Rattle.pg_session.specs.Events.{SubscriberEvent}
use Rattle.pg_session.specs.Private as private
use Rattle.pg_session.specs.Private.{ReplyValue}
use Rattle.pg_session.specs.Commands.{break_in as session_break}
use Rattle.pg_ingest.specs.Items as link
use Rattle.pg_ingest.specs.Items.{break_in as link_break}
use Rattle.pg_ingest.specs.Shown.{LinkPast, beginning, feeding, renewed, IsAllTold}
use Rattle.pg_gateway.specs.GatewayEvents.{GatewayEvent, add_pmu, drop_pmu, add_sub, drop_sub, grant, asks, announce, measure, tick, Answer, tells, sub_counts, pmu_counts, entry, stands, those_waiting, inquires}
use Rattle.pg_gateway.specs.State.{SharedMachine, opening as shared_opening, slot_of, refusal}
use Rattle.pg_gateway.specs.Histories.{Legal, state_after}
use Rattle.pg_serve.specs.Inputs.{InputValue, link_up, pmu_bytes, sub_bytes, names, Outcome}
use Rattle.pg_serve.specs.Actions.{Action, posts, refuses, Effect, action_of, notes_of, pairs_of, session_grows, link_action, words_due, frames_of, gave, telling_so}

-- A source's line: what happened to its link, and whether its connection was ever up since the link was made.
pub record SourceLinkPast : Type 0 where
  pub link : LinkPast
  pub is_up : Bool

-- The shared machine, a line for each source that has a registered PMU, and the bytes of each connected subscriber since its
-- Connect.
pub record WorldState : Type 0 where
  pub shared : SharedMachine
  pub lines : List (ℕ × SourceLinkPast)
  pub fed : List (ℕ × List ℕ)

abbrev pub opening : WorldState
opening = record { shared = shared_opening; lines = []; fed = [] }

-- An input, what it made the world do, and what was told of its bytes, where they are a source's.
pub record Turn : Type 0 where
  pub input : InputValue
  pub effects : List Effect
  pub told : List link.Item

abbrev pub Turns : Type 0
Turns = List Turn

-- ---- what an input makes

-- why a subscriber has no session: it is not there, or not connected
abbrev pub absence : Bool → Refusal
absence there = if there then NotConnected else NoSuchSub

abbrev pub heard_action : ℕ → List ℕ → Bool → Option (List ℕ) → List Action
heard_action u piece there None = refuses (absence there) ∷ []
heard_action u piece there (Some stream) = session_grows u stream piece

-- the past of a link once it was fed a piece and told these items
abbrev pub telling : LinkPast → List ℕ → List link.Item → LinkPast
telling past piece items = telling_so (feeding past piece) items

-- These items are told of a source's bytes, and this is what they make.
abbrev pub ToldOf : List ℕ → Option SourceLinkPast → List link.Item → List Action → Type 0
ToldOf piece None items actions = (items ≡ []) × (actions ≡ refuses NoSuchPmu ∷ [])
ToldOf piece (Some line) items actions =
    IsAllTold (telling line.link piece items) × (actions ≡ link_action items (link_break (line.link.stream ++ piece)))

abbrev pub up_action : Option SourceLinkPast → List Action
up_action None = refuses NoSuchPmu ∷ []
up_action (Some line) = []

-- the events for which the world makes a link or a session first
abbrev pub begins : GatewayEvent → Bool
begins (add_pmu key) = true
begins (asks u session.connect) = true
begins _ = false

-- The event of the input's name is posted; or there is no memory for its link or session, and it would not be refused.
abbrev pub Posts : SharedMachine → GatewayEvent → List Action → Type 0
Posts S e actions =
    (actions ≡ posts e ∷ []) ⊎ ((actions ≡ refuses NoMemory ∷ []) × (begins e ≡ true) × (refusal S e ≡ None))

-- an input makes this, where these items are told of its bytes
abbrev pub Makes : WorldState → InputValue → List link.Item → List Action → Type 0
Makes m (link_up s) items actions = (items ≡ []) × (actions ≡ up_action (lookup (nat_eq s) m.lines))
Makes m (pmu_bytes s piece) items actions = ToldOf piece (lookup (nat_eq s) m.lines) items actions
Makes m (sub_bytes u piece) items actions =
    (items ≡ []) × (actions ≡ heard_action u piece (is_some (slot_of u m.shared.subs)) (lookup (nat_eq u) m.fed))
Makes m (names e) items actions = (items ≡ []) × Posts m.shared e actions

-- The turn may come here: its effects are what its input makes, each event with an answer that may come there.
pub record LegalTurn (m : WorldState) (t : Turn) : Type 0 where
  pub makes : Makes m t.input t.told (map action_of t.effects)
  pub legal : Legal m.shared (pairs_of t.effects)

-- ---- what it leaves

abbrev pub is_done_so : ReplyValue → Bool
is_done_so (private.done made kept) = true
is_done_so (private.refused r) = false
is_done_so (private.handed bytes begun gap) = false

abbrev pub is_done : Answer → Bool
is_done (tells t) = is_done_so t
is_done (sub_counts s) = false
is_done (pmu_counts s) = false
is_done (those_waiting us) = false
is_done (entry found) = false
is_done (stands s) = false

-- a PMU of this source is registered
abbrev pub has_source : SharedMachine → ℕ → Bool
has_source S s = registered.has_source S.pmus s

abbrev pub new_source_link : ℕ → SourceLinkPast
new_source_link s = record { link = beginning s; is_up = false }

-- A link is made with a source's first key, and dropped with its last: by the states before and after an event.
abbrev pub lines_by : List (ℕ × SourceLinkPast) → SharedMachine → SharedMachine → GatewayEvent → Bool → List (ℕ × SourceLinkPast)
lines_by lines S T (add_pmu key) done =
    if done
    then (if has_source S key.source then lines else insert_entry nat_eq lines key.source (new_source_link key.source))
    else lines
lines_by lines S T (drop_pmu key) done = if has_source T key.source then lines else remove_entry (nat_eq key.source) lines
lines_by lines S T (add_sub u size bytes) done = lines
lines_by lines S T (drop_sub u) done = lines
lines_by lines S T (grant u key) done = lines
lines_by lines S T (asks u x) done = lines
lines_by lines S T (announce config) done = lines
lines_by lines S T (measure m) done = lines
lines_by lines S T (tick soc) done = lines
lines_by lines S T (inquires q) done = lines

-- A session begins with a Connect, and ends with a Hangup and with its subscriber, where these are done.
abbrev pub fed_by_one : List (ℕ × List ℕ) → ℕ → SubscriberEvent → Bool → List (ℕ × List ℕ)
fed_by_one fed u session.connect done = if done then insert_entry nat_eq fed u [] else fed
fed_by_one fed u session.hangup done = if done then remove_entry (nat_eq u) fed else fed
fed_by_one fed u (session.grant key config) done = fed
fed_by_one fed u (session.revoke key) done = fed
fed_by_one fed u (session.announce list) done = fed
fed_by_one fed u (session.measure soc quality frac samples) done = fed
fed_by_one fed u (session.define definition) done = fed
fed_by_one fed u (session.remove number) done = fed
fed_by_one fed u (session.tick soc) done = fed
fed_by_one fed u (session.command number word) done = fed
fed_by_one fed u (session.drain n) done = fed

abbrev pub fed_by : List (ℕ × List ℕ) → GatewayEvent → Bool → List (ℕ × List ℕ)
fed_by fed (asks u x) done = fed_by_one fed u x done
fed_by fed (drop_sub u) done = if done then remove_entry (nat_eq u) fed else fed
fed_by fed _ done = fed

-- a link whose connection was up gives all commands that are owed
abbrev pub words_given : SourceLinkPast → List Word
words_given line = if line.is_up then words_due line.link else []

abbrev pub gives_all : SourceLinkPast → SourceLinkPast
gives_all line = record line { link = gave line.link (words_given line) }

abbrev pub gone_up : SourceLinkPast → SourceLinkPast
gone_up line = record { link = renewed line.link; is_up = true }

abbrev pub fed_line : SourceLinkPast → List ℕ → List link.Item → SourceLinkPast
fed_line line piece items = record line { link = telling line.link piece items }

-- a line after an input of its source, before its commands
abbrev pub at_source : InputValue → List link.Item → SourceLinkPast → SourceLinkPast
at_source (link_up s) items line = gone_up line
at_source (pmu_bytes s piece) items line = fed_line line piece items
at_source (sub_bytes u piece) items line = line
at_source (names e) items line = line

abbrev pub put_line : ℕ → List (ℕ × SourceLinkPast) → Option SourceLinkPast → List (ℕ × SourceLinkPast)
put_line s lines None = lines
put_line s lines (Some line) = set_value (nat_eq s) lines line

abbrev pub line_after : InputValue → List link.Item → Option SourceLinkPast → Option SourceLinkPast
line_after f items None = None
line_after f items (Some line) = Some (at_source f items line)

abbrev pub all_given : Option SourceLinkPast → Option SourceLinkPast
all_given None = None
all_given (Some line) = Some (gives_all line)

-- u's bytes after a piece; none is kept behind a break
abbrev pub put_fed : ℕ → List ℕ → List (ℕ × List ℕ) → Option Refusal → List (ℕ × List ℕ)
put_fed u stream fed None = set_value (nat_eq u) fed stream
put_fed u stream fed (Some r) = remove_entry (nat_eq u) fed

abbrev pub fed_more : ℕ → List ℕ → List (ℕ × List ℕ) → Option (List ℕ) → List (ℕ × List ℕ)
fed_more u piece fed None = fed
fed_more u piece fed (Some stream) = put_fed u (stream ++ piece) fed (session_break (stream ++ piece))

abbrev pub lines_named : List (ℕ × SourceLinkPast) → SharedMachine → SharedMachine → List (GatewayEvent × Answer) → List (ℕ × SourceLinkPast)
lines_named lines S T [] = lines
lines_named lines S T (x ∷ xs) = lines_by lines S T x.0 (is_done x.1)

abbrev pub fed_named : List (ℕ × List ℕ) → List (GatewayEvent × Answer) → List (ℕ × List ℕ)
fed_named fed [] = fed
fed_named fed (x ∷ xs) = fed_by fed x.0 (is_done x.1)

-- the lines and the bytes after an input, and the shared machine then
abbrev pub lines_after : WorldState → Turn → SharedMachine → InputValue → List (ℕ × SourceLinkPast)
lines_after m t S (link_up s) = put_line s m.lines (all_given (line_after t.input t.told (lookup (nat_eq s) m.lines)))
lines_after m t S (pmu_bytes s piece) = put_line s m.lines (all_given (line_after t.input t.told (lookup (nat_eq s) m.lines)))
lines_after m t S (sub_bytes u piece) = m.lines
lines_after m t S (names e) = lines_named m.lines m.shared S (pairs_of t.effects)

abbrev pub fed_after : WorldState → Turn → InputValue → List (ℕ × List ℕ)
fed_after m t (link_up s) = m.fed
fed_after m t (pmu_bytes s piece) = m.fed
fed_after m t (sub_bytes u piece) = fed_more u piece m.fed (lookup (nat_eq u) m.fed)
fed_after m t (names e) = fed_named m.fed (pairs_of t.effects)

abbrev pub after_turn : WorldState → Turn → WorldState
after_turn m t = record {
  shared = state_after m.shared (pairs_of t.effects);
  lines = lines_after m t (state_after m.shared (pairs_of t.effects)) t.input;
  fed = fed_after m t t.input;
}

-- ---- what is answered

abbrev pub sent : Option SourceLinkPast → List ℕ
sent None = []
sent (Some line) = frames_of line.link.source (words_given line)

abbrev pub to_source : WorldState → Turn → InputValue → List ℕ
to_source m t (link_up s) = sent (line_after t.input t.told (lookup (nat_eq s) m.lines))
to_source m t (pmu_bytes s piece) = sent (line_after t.input t.told (lookup (nat_eq s) m.lines))
to_source m t (sub_bytes u piece) = []
to_source m t (names e) = []

-- a note of each effect, in their order, and the commands that the source is sent
abbrev pub outcome_of : WorldState → Turn → Outcome
outcome_of m t = record { notes = notes_of t.effects; to_pmu = to_source m t t.input }

-- ---- turns, one after another

abbrev pub LegalTurns : WorldState → Turns → Type 0
LegalTurns m [] = Unit {0}
LegalTurns m (t ∷ ts) = LegalTurn m t × LegalTurns (after_turn m t) ts

abbrev pub after_turns : WorldState → Turns → WorldState
after_turns m [] = m
after_turns m (t ∷ ts) = after_turns (after_turn m t) ts

abbrev pub all_outcomes : WorldState → Turns → List Outcome
all_outcomes m [] = []
all_outcomes m (t ∷ ts) = outcome_of m t ∷ all_outcomes (after_turn m t) ts

abbrev pub inputs_of : Turns → List InputValue
inputs_of turns = map (λ t. t.input) turns

-- all events of these turns with their answers, one after another
abbrev pub history_of : Turns → List (GatewayEvent × Answer)
history_of turns = flat_map (λ t. pairs_of t.effects) turns
