-- What inputs make where no memory is refused.
use Rattle.std.specs.Prelude.{◌≡◌, ℕ, Bool, false, if◌then◌else◌, nat_eq, is_some, List, [], ◌∷◌, ◌++◌, length, drop, Option, Some, None, option_map}
use Rattle.std.specs.List.{flat_map}
use Rattle.std.specs.Map.{lookup}
use Rattle.std.specs.Option.{option_map_or}
use Rattle.pg_ring.specs.Shown.{Queue}
use Rattle.pg_audit.specs.declared.counters.PmuStats.{PmuStats}
use Rattle.pg_data.specs.Measurements.{Measurement}
use Rattle.pg_ring.specs.Numbers.{shown_of}
use Rattle.pg_session.specs.Shown.{Model}
use Rattle.pg_session.specs.Commands.{items_of, session_stats}
use Rattle.pg_ingest.specs.Items as link
use Rattle.pg_ingest.specs.Items.{told_of, break_in}
use Rattle.pg_ingest.specs.Linking.{link_stats}
use Rattle.pg_gateway.specs.GatewayEvents.{GatewayEvent, asks, measure, Answer}
use Rattle.pg_gateway.specs.State.{SharedMachine, opening as shared_opening, slot_of, own_of, refusal}
use Rattle.pg_gateway.specs.Views.{ViewEvent, full_answer, shared_step, view, Handed, handed_out}
use Rattle.pg_gateway.specs.Laws.{after, events_of, answers_of, AgreeOn}
use Rattle.pg_serve.specs.Inputs.{InputValue, link_up, pmu_bytes, sub_bytes, names, Noted, replied, ignored, closed, Outcome}
use Rattle.pg_serve.specs.Actions.{Action, posts, ignores_frame, closes, refuses, Effect, answered, ignored_frame, closed_at, refused, pairs_of, link_action}
use Rattle.pg_serve.specs.WorldStates.{SourceLinkPast, WorldState, opening, Turn, Turns, after_turn, after_turns, all_outcomes, history_of, heard_action, up_action}

-- ---- the turn that an input is

abbrev pub full_effect : SharedMachine → Action → Effect
full_effect S (posts e) = answered e (full_answer S e)
full_effect S (ignores_frame r) = ignored_frame r
full_effect S (closes r) = closed_at r
full_effect S (refuses r) = refused r

abbrev pub after_action : SharedMachine → Action → SharedMachine
after_action S (posts e) = shared_step S e
after_action S (ignores_frame r) = S
after_action S (closes r) = S
after_action S (refuses r) = S

abbrev pub full_effects : SharedMachine → List Action → List Effect
full_effects S [] = []
full_effects S (d ∷ ds) = full_effect S d ∷ full_effects (after_action S d) ds

-- what is told of a source's bytes more by a piece
abbrev pub told_more : List ℕ → Option SourceLinkPast → List link.Item
told_more piece None = []
told_more piece (Some line) =
    drop (length (told_of line.link.source line.link.stream)) (told_of line.link.source (line.link.stream ++ piece))

abbrev pub full_told : WorldState → InputValue → List link.Item
full_told m (link_up s) = []
full_told m (pmu_bytes s piece) = told_more piece (lookup (nat_eq s) m.lines)
full_told m (sub_bytes u piece) = []
full_told m (names e) = []

abbrev pub told_actions : List ℕ → Option SourceLinkPast → List Action
told_actions piece None = up_action None
told_actions piece (Some line) = link_action (told_more piece (Some line)) (break_in (line.link.stream ++ piece))

-- what an input makes, by looking back over the bytes that came before
abbrev pub actions_of : WorldState → InputValue → List Action
actions_of m (link_up s) = up_action (lookup (nat_eq s) m.lines)
actions_of m (pmu_bytes s piece) = told_actions piece (lookup (nat_eq s) m.lines)
actions_of m (sub_bytes u piece) = heard_action u piece (is_some (slot_of u m.shared.subs)) (lookup (nat_eq u) m.fed)
actions_of m (names e) = posts e ∷ []

abbrev pub full_turn : WorldState → InputValue → Turn
full_turn m f = record { input = f; effects = full_effects m.shared (actions_of m f); told = full_told m f }

abbrev pub full_turns : WorldState → List InputValue → Turns
full_turns m [] = []
full_turns m (f ∷ fs) = full_turn m f ∷ full_turns (after_turn m (full_turn m f)) fs

-- the state that inputs lead to
abbrev pub world_state_of : List InputValue → WorldState
world_state_of inputs = after_turns opening (full_turns opening inputs)

-- the events that the inputs make, and their answers
abbrev pub events_made : List InputValue → List GatewayEvent
events_made inputs = events_of (history_of (full_turns opening inputs))

abbrev pub answers_made : List InputValue → List Answer
answers_made inputs = answers_of (history_of (full_turns opening inputs))

-- the events that one input more makes
abbrev pub events_at : List InputValue → InputValue → List GatewayEvent
events_at inputs f = events_of (pairs_of (full_turn (world_state_of inputs) f).effects)

-- all that a subscriber sees of the inputs
abbrev pub view_of : ℕ → List InputValue → List ViewEvent
view_of u inputs = view u shared_opening (events_made inputs)

-- what is answered to the inputs
abbrev pub full_outcomes : List InputValue → List Outcome
full_outcomes inputs = all_outcomes opening (full_turns opening inputs)

-- the input asks something for u, or is of its bytes
abbrev pub is_asked : ℕ → GatewayEvent → Bool
is_asked u (asks w x) = nat_eq u w
is_asked u _ = false

abbrev pub is_for : ℕ → InputValue → Bool
is_for u (link_up s) = false
is_for u (pmu_bytes s piece) = false
is_for u (sub_bytes w piece) = nat_eq u w
is_for u (names e) = is_asked u e

-- what a note hands out: of a drain's reply the bytes, how many frames they begin, and the sum of the gaps before these
abbrev pub handed_note : Noted → List Handed
handed_note (replied a) = handed_out a
handed_note (ignored r) = []
handed_note (closed r) = []

-- what the outputs of these inputs hand to u
abbrev pub handed_at : ℕ → InputValue → List Noted → List Handed
handed_at u f notes = if is_for u f then flat_map handed_note notes else []

abbrev pub handed_over : ℕ → List InputValue → List Outcome → List Handed
handed_over u [] outcomes = []
handed_over u (f ∷ inputs) [] = []
handed_over u (f ∷ inputs) (o ∷ outcomes) = handed_at u f o.notes ++ handed_over u inputs outcomes

-- what a source's link counts: what is told of the bytes that it was given since it was made, where the source has a link
abbrev pub link_counts_of : ℕ → List InputValue → Option PmuStats
link_counts_of s inputs =
    option_map (λ line. link_stats (line.link.earlier ++ told_of line.link.source line.link.stream))
    (lookup (nat_eq s) (world_state_of inputs).lines)

-- what a subscriber's session counts: what its bytes since its Connect make, where it has a session
abbrev pub session_counts_of : ℕ → List InputValue → Option PmuStats
session_counts_of u inputs = option_map (λ stream. session_stats (items_of stream)) (lookup (nat_eq u) (world_state_of inputs).fed)

-- what of a private gateway its queue's readers show
abbrev pub queue_of : Option Model → Option Queue
queue_of p = option_map (λ p. shown_of p.output.queue) p

abbrev pub is_connected : Option Model → Bool
is_connected p = option_map_or (λ p. p.connected) p false

-- Two lists of inputs that give a subscriber equal views leave it alike, queue the same for it and hand it the same.
pub record InputsIsolate : Type 0 where
  pub states : (u : ℕ) (is js : List InputValue) → view_of u is ≡ view_of u js
      → own_of u (after (events_made is)) ≡ own_of u (after (events_made js))
  pub queued : (u : ℕ) (is js : List InputValue) → view_of u is ≡ view_of u js
      → queue_of (own_of u (after (events_made is))) ≡ queue_of (own_of u (after (events_made js)))
  pub handed : (u : ℕ) (is js : List InputValue) → view_of u is ≡ view_of u js
      → handed_over u is (full_outcomes is) ≡ handed_over u js (full_outcomes js)

-- Of a frame of several PMUs a subscriber has its granted blocks alone. Where two worlds take inputs of which it sees the same,
-- it goes on alike; so where these are bytes that make a measurement each, and the measurements agree on what it is granted.
pub record SharedFrame : Type 0 where
  pub parts : (u : ℕ) (is js : List InputValue) (f g : InputValue) → own_of u (after (events_made is)) ≡ own_of u (after (events_made js))
      → view u (after (events_made is)) (events_at is f) ≡ view u (after (events_made js)) (events_at js g)
      → own_of u (after (events_made (is ++ f ∷ []))) ≡ own_of u (after (events_made (js ++ g ∷ [])))
  pub frames : (u : ℕ) (is js : List InputValue) (f g : InputValue) (m n : Measurement)
      → own_of u (after (events_made is)) ≡ own_of u (after (events_made js))
      → events_at is f ≡ measure m ∷ [] → events_at js g ≡ measure n ∷ []
      → refusal (after (events_made is)) (measure m) ≡ None → refusal (after (events_made js)) (measure n) ≡ None
      → AgreeOn u (after (events_made is)) m (after (events_made js)) n
      → own_of u (after (events_made (is ++ f ∷ []))) ≡ own_of u (after (events_made (js ++ g ∷ [])))
