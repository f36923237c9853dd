-- What a script of a history is, and what its replay hands out.
use Rattle.std.specs.Prelude.{◌≡◌, ℕ, Bool, true, false, if◌then◌else◌, nat_eq, List, [], ◌∷◌, Some, Ok}
use Rattle.std.specs.Map.{lookup}
use Rattle.pg_wire.specs.Split.{rest_in}
use Rattle.pg_wire.specs.Head.{IsFrame}
use Rattle.pg_wire.specs.declared.kind.Kind.TheVariants.{CfgTwo}
use Rattle.pg_command.specs.Reading.{command_of}
use Rattle.pg_config.specs.Parts.{Source}
use Rattle.pg_config.specs.Reading.{config_of}
use Rattle.pg_data.specs.Measurements.{Measurement}
use Rattle.pg_data.specs.Reading.{SpellsData}
use Rattle.pg_session.specs.Events.{command}
use Rattle.pg_ingest.specs.Items.{IsOfKind}
use Rattle.pg_gateway.specs.Judging.{registered_of}
use Rattle.pg_gateway.specs.GatewayEvents.{GatewayEvent, asks, announce, measure, inquires, Answer}
use Rattle.pg_gateway.specs.State.{SharedMachine, opening as shared_opening, own_of, judged_in}
use Rattle.pg_gateway.specs.Histories.{Legal, state_after}
use Rattle.pg_gateway.specs.Views.{shared_step, AllLossless, handed_to}
use Rattle.pg_gateway.specs.Laws.{events_of, answers_of}
use Rattle.pg_serve.specs.Inputs.{InputValue, pmu_bytes, sub_bytes, names, Outcome}
use Rattle.pg_serve.specs.WorldStates.{SourceLinkPast, WorldState, opening, after_turn}
use Rattle.pg_serve.specs.Shown.{WorldValue, queue_shown}
use Rattle.pg_serve.specs.Full.{full_turn, events_made, handed_over, queue_of}
use Rattle.pg_serve.specs.Headline.{HasAnswered, OutcomesLossless}
use Rattle.pg_serve.specs.Framed.{Awaits}

-- ---- the events that a script has to make

abbrev pub has_none : {A : Type 0} → List A → Bool
has_none [] = true
has_none (x ∷ xs) = false

-- The event changes nothing and hands nothing out: a question, and a frame of which no PMU is registered.
abbrev pub is_idle : SharedMachine → GatewayEvent → Bool
is_idle S (inquires q) = true
is_idle S (announce config) = has_none (registered_of S.pmus config)
is_idle S (measure m) = has_none (judged_in S m)
is_idle S _ = false

abbrev pub recorded : SharedMachine → List GatewayEvent → List GatewayEvent
recorded S [] = []
recorded S (e ∷ es) = if is_idle S e then recorded (shared_step S e) es else e ∷ recorded (shared_step S e) es

-- ---- the inputs that make them

-- At this state the source has a link, and its bytes end where a frame ends.
pub record HasLink (m : WorldState) (source : ℕ) : Type 0 where
  pub line : SourceLinkPast
  pub found : lookup (nat_eq source) m.lines ≡ Some line
  pub own : line.link.source ≡ source
  pub between : rest_in line.link.stream ≡ []

-- At this state the subscriber has a session, and its bytes end where a frame ends.
pub record HasSession (m : WorldState) (u : ℕ) : Type 0 where
  pub stream : List ℕ
  pub found : lookup (nat_eq u) m.fed ≡ Some stream
  pub between : rest_in stream ≡ []

-- the bytes are one CFG-2 frame that is read as this configuration (C37.118.2, 6.4)
pub record SpellsSource (frame : List ℕ) (config : Source) : Type 0 where
  pub whole : IsFrame frame
  pub kind : IsOfKind CfgTwo frame
  pub read : config_of frame ≡ Ok (record { kind = CfgTwo; config = config })

-- the bytes are one frame that is read as this command (C37.118.2, 6.6)
pub record SpellsWord (frame : List ℕ) (stream word : ℕ) : Type 0 where
  pub whole : IsFrame frame
  pub read : command_of frame ≡ Ok (record { stream = stream; word = word })

-- At this state the input is how a script has the event: an operator's line, a tick, a connection, a hang-up and a drain by its name, and
-- whole frames of a source and of a subscriber by their bytes.
abbrev pub IsSpelled : WorldState → InputValue → GatewayEvent → Type 0
IsSpelled m (names f) e = f ≡ e
IsSpelled m (pmu_bytes source frame) (measure d) = (config : Source) × Awaits m source config × SpellsData frame config d
IsSpelled m (pmu_bytes source frame) (announce config) = HasLink m source × (config.source ≡ source) × SpellsSource frame config
IsSpelled m (sub_bytes u frame) (asks w (command stream word)) = (u ≡ w) × HasSession m u × SpellsWord frame stream word
IsSpelled m _ _ = ⊥

-- The inputs are how a script has the events, one for each, from this state on.
abbrev pub AreSpelled : WorldState → List InputValue → List GatewayEvent → Type 0
AreSpelled m [] [] = Unit {0}
AreSpelled m (f ∷ script) (e ∷ es) = IsSpelled m f e × AreSpelled (after_turn m (full_turn m f)) script es
AreSpelled m _ _ = ⊥

-- A script makes just the events that it spells. So where a legal history of a gateway, from its opening on, tells no loss and no want of
-- memory, and a script spells its events, all but the idle ones, each world that took this script without a loss handed each subscriber what the
-- history's drains handed it, and its queue shows the same.
pub record ReplaysAlike : Type 0 where
  pub made : (script : List InputValue) (es : List GatewayEvent) → AreSpelled opening script es → events_made script ≡ es
  pub handed : (h : List (GatewayEvent × Answer)) (script : List InputValue) (w : WorldValue) (told : List Outcome)
      → Legal shared_opening h → AllLossless (answers_of h) → AreSpelled opening script (recorded shared_opening (events_of h))
      → HasAnswered w script told → OutcomesLossless told
      → (u : ℕ) → handed_over u script told ≡ handed_to u (events_of h) (answers_of h)
  pub queued : (h : List (GatewayEvent × Answer)) (script : List InputValue) (w : WorldValue) (told : List Outcome)
      → Legal shared_opening h → AllLossless (answers_of h) → AreSpelled opening script (recorded shared_opening (events_of h))
      → HasAnswered w script told → OutcomesLossless told
      → (u : ℕ) → queue_shown u w ≡ queue_of (own_of u (state_after shared_opening h))
