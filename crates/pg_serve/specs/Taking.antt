-- What one input does, or several: for the contracts of private functions.
use Rattle.std.specs.Prelude.{◌≡◌, ℕ, Bool, nat_eq, if◌then◌else◌, List, [], ◌++◌}
use Rattle.std.specs.Map.{remove_entry}
use Rattle.pg_gateway.specs.GatewayEvents.{GatewayEvent}
use Rattle.pg_gateway.specs.State.{SharedMachine}
use Rattle.pg_gateway.specs.Shown.{GatewayValue}
use Rattle.pg_ingest.specs.Items.{Item, break_in as link_break}
use Rattle.pg_ingest.specs.Shown.{IsAllTold}
use Rattle.pg_serve.specs.declared.source_link.SourceLink.{SourceLink}
use Rattle.pg_serve.specs.declared.world_core.Core.{Core}
use Rattle.pg_serve.specs.Inputs.{InputValue, Outcome}
use Rattle.pg_serve.specs.Actions.{frames_of, link_action}
use Rattle.pg_serve.specs.WorldStates.{SourceLinkPast, WorldState, Turn, Turns, LegalTurn, LegalTurns, after_turn, after_turns, outcome_of, all_outcomes, inputs_of, lines_by, fed_by, telling, words_given, gone_up, gives_all, fed_line}
use Rattle.pg_serve.specs.Feeding.{Did}
use Rattle.pg_serve.specs.Shown.{Holding, WorldStateShows, SourceLinkShows}

-- what a core holds
abbrev pub held : Core → Holding
held core = record { gateway = core.gateway; lines = core.lines.entries; sessions = core.sessions.entries }

-- From this state an input was taken, and so answered.
pub record Takes (m : WorldState) (input : InputValue) (o : Outcome) (h : Holding) : Type 0 where
  pub turn : Turn
  pub is : turn.input ≡ input
  pub legal : LegalTurn m turn
  pub outcome : o ≡ outcome_of m turn
  pub shows : WorldStateShows h (after_turn m turn)

-- Whatever state was shown before, the input was taken from it.
abbrev pub TakesInput : Holding → InputValue → Outcome → Holding → Type 0
TakesInput before input o after = (m : WorldState) → WorldStateShows before m → Takes m input o after

-- From this state inputs were taken, one after another.
pub record TakesMany (m : WorldState) (inputs : List InputValue) (told : List Outcome) (h : Holding) : Type 0 where
  pub turns : Turns
  pub taken : inputs_of turns ≡ inputs
  pub legal : LegalTurns m turns
  pub outcomes : told ≡ all_outcomes m turns
  pub shows : WorldStateShows h (after_turns m turns)

abbrev pub TakesInputs : Holding → List InputValue → List Outcome → Holding → Type 0
TakesInputs before inputs told after = (m : WorldState) → WorldStateShows before m → TakesMany m inputs told after

-- The event concerns no link and no session.
pub record Spares (e : GatewayEvent) : Type 0 where
  pub lines : (lines : List (ℕ × SourceLinkPast)) (S T : SharedMachine) (b : Bool) → lines_by lines S T e b ≡ lines
  pub fed : (fed : List (ℕ × List ℕ)) (b : Bool) → fed_by fed e b ≡ fed

-- The event ends u's session, where it is done.
pub record Ends (u : ℕ) (e : GatewayEvent) : Type 0 where
  pub lines : (lines : List (ℕ × SourceLinkPast)) (S T : SharedMachine) (b : Bool) → lines_by lines S T e b ≡ lines
  pub fed : (fed : List (ℕ × List ℕ)) (b : Bool) → fed_by fed e b ≡ (if b then remove_entry (nat_eq u) fed else fed)

-- A line went up, and all commands were given.
pub record GoesUp (line : SourceLinkPast) (frames : List ℕ) (v : SourceLink) : Type 0 where
  pub sent : frames ≡ frames_of line.link.source (words_given (gone_up line))
  pub shows : SourceLinkShows v (gives_all (gone_up line))

-- A line took bytes of its source.
pub record TakesBytes (S : SharedMachine) (line : SourceLinkPast) (bytes : List ℕ) (o : Outcome) (g : GatewayValue) (v : SourceLink) : Type 0 where
  pub items : List Item
  pub all : IsAllTold (telling line.link bytes items)
  pub did : Did S (link_action items (link_break (line.link.stream ++ bytes))) [] o.notes g
  pub sent : o.to_pmu ≡ frames_of line.link.source (words_given (fed_line line bytes items))
  pub shows : SourceLinkShows v (gives_all (fed_line line bytes items))
