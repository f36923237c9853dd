-- What bytes are due to make, by looking back over those that came before them.
use Rattle.std.specs.Prelude.{ℕ, if◌then◌else◌, List, [], ◌∷◌, ◌++◌, length, map, drop, reverse, Option, Some, None}
use Rattle.std.specs.List.{flat_map}
use Rattle.pg_wire.specs.declared.refusal.Refusal.{Refusal}
use Rattle.pg_wire.specs.declared.refusal.Refusal.TheVariants.{WrongType}
use Rattle.pg_command.specs.declared.word.Word.{Word}
use Rattle.pg_command.specs.declared.word.Word.TheVariants.{StartData, SendCfgTwo}
use Rattle.pg_command.specs.Words.{word_number}
use Rattle.pg_command.specs.Spelling.{written}
use Rattle.pg_session.specs.Events.{command, hangup}
use Rattle.pg_session.specs.Private as private
use Rattle.pg_session.specs.Commands as session
use Rattle.pg_session.specs.Commands.{commands, ignores, items_of}
use Rattle.pg_ingest.specs.Items as link
use Rattle.pg_ingest.specs.Items.{announces, measures, skips, rejects_config, rejects_data, passes_over}
use Rattle.pg_ingest.specs.Commands.{owes_config, owes_start, asks as given, tells as telling}
use Rattle.pg_ingest.specs.Shown.{LinkPast}
use Rattle.pg_gateway.specs.GatewayEvents.{GatewayEvent, asks, announce, measure, Answer, tells}
use Rattle.pg_serve.specs.Inputs.{Noted, replied, ignored, closed}

-- what an input makes the world do
pub data Action : Type 0 where
  -- an event is posted
  posts : GatewayEvent → Action
  -- a frame is ignored
  ignores_frame : Refusal → Action
  -- bytes broke
  closes : Refusal → Action
  -- the world itself refuses the input
  refuses : Refusal → Action

-- the same done: an event that was posted has an answer
pub data Effect : Type 0 where
  answered : GatewayEvent → Answer → Effect
  ignored_frame : Refusal → Effect
  closed_at : Refusal → Effect
  refused : Refusal → Effect

abbrev pub action_of : Effect → Action
action_of (answered e a) = posts e
action_of (ignored_frame r) = ignores_frame r
action_of (closed_at r) = closes r
action_of (refused r) = refuses r

-- what is noted of it: of an event the reply
abbrev pub note_of : Effect → Noted
note_of (answered e a) = replied a
note_of (ignored_frame r) = ignored r
note_of (closed_at r) = closed r
note_of (refused r) = replied (tells (private.refused r))

abbrev pub notes_of : List Effect → List Noted
notes_of effects = map note_of effects

abbrev pub pairs_by : Effect → List (GatewayEvent × Answer)
pairs_by (answered e a) = (e, a) ∷ []
pairs_by (ignored_frame r) = []
pairs_by (closed_at r) = []
pairs_by (refused r) = []

-- the events with their answers
abbrev pub pairs_of : List Effect → List (GatewayEvent × Answer)
pairs_of effects = flat_map pairs_by effects

-- ---- a subscriber's bytes

abbrev pub item_action : ℕ → session.Item → Action
item_action u (commands c) = posts (asks u (command c.stream c.word))
item_action u (ignores r) = ignores_frame r

-- at a break the session is closed, and the subscriber hung up
abbrev pub hang_up : ℕ → Option Refusal → List Action
hang_up u None = []
hang_up u (Some r) = closes r ∷ posts (asks u hangup) ∷ []

-- all that u's bytes since its Connect make
abbrev pub session_action : ℕ → List ℕ → List Action
session_action u stream = map (item_action u) (items_of stream) ++ hang_up u (session.break_in stream)

-- what they make more by a piece, where u is connected
abbrev pub session_grows : ℕ → List ℕ → List ℕ → List Action
session_grows u stream piece = drop (length (session_action u stream)) (session_action u (stream ++ piece))

-- ---- a source's bytes

abbrev pub told_action : link.Item → Action
told_action (announces config) = posts (announce config)
told_action (measures m) = posts (measure m)
told_action (skips r) = ignores_frame r
told_action (rejects_config r) = ignores_frame r
told_action (rejects_data r) = ignores_frame r
told_action passes_over = ignores_frame WrongType

abbrev pub close : Option Refusal → List Action
close None = []
close (Some r) = closes r ∷ []

-- what these items make, behind which the stream breaks or not
abbrev pub link_action : List link.Item → Option Refusal → List Action
link_action items broken = map told_action items ++ close broken

-- the past of a link once it told these items more
abbrev pub telling_so : LinkPast → List link.Item → LinkPast
telling_so past items = record past { acts = past.acts ++ map telling items }

-- ---- commands to a source

-- the commands that it is owed, each once, 5 before 2
abbrev pub words_due : LinkPast → List Word
words_due past =
    (if owes_config (reverse past.acts) then SendCfgTwo ∷ [] else [])
    ++ (if owes_start (reverse past.acts) then StartData ∷ [] else [])

-- their frames, one behind another
abbrev pub frames_of : ℕ → List Word → List ℕ
frames_of source words = flat_map (λ word. written source 0 (word_number word)) words

-- after it was given them
abbrev pub gave : LinkPast → List Word → LinkPast
gave past words = record past { acts = past.acts ++ map given words }
