-- What a link's loop reads, posts and writes, step by step.
use Rattle.std.specs.Prelude.{◌≡◌, ◌≤◌, ℕ, Bool, List, [], ◌∷◌, ◌++◌, filter, map, length, Option, Some, None}
use Rattle.std.specs.List.{flat_map}
use Rattle.std.specs.Io.KnownBytes.{Appends, Consumes}
use Rattle.pg_command.specs.declared.word.Word.{Word}
use Rattle.pg_command.specs.Words.{word_number}
use Rattle.pg_command.specs.Spelling.{written}
use Rattle.pg_gateway.specs.GatewayEvents.{GatewayEvent, announce, measure}
use Rattle.pg_gateway.specs.Posting.{Posted, Notes}
use Rattle.pg_ingest.specs.Items.{Item, announces, measures, skips, rejects_config, rejects_data, passes_over}
use Rattle.pg_ingest.specs.Commands.{asks, tells}
use Rattle.pg_ingest.specs.Linking.{Linking}
use Rattle.pg_ingest.specs.Shown.{LinkPast, ShowsLink, IsAllTold, feeding, doing, word_due}

-- a step of the loop
pub data Step : Type 0 where
  -- a command is begun
  begins : Word → Step
  -- a piece of the source's bytes is read
  reads : List ℕ → Step
  -- the next frame is told, and posted where it is an event
  posts : Item → Step

abbrev pub stepping : LinkPast → Step → LinkPast
stepping past (begins word) = doing past (asks word)
stepping past (reads piece) = feeding past piece
stepping past (posts item) = doing past (tells item)

abbrev pub after_steps : LinkPast → List Step → LinkPast
after_steps past [] = past
after_steps past (step ∷ steps) = after_steps (stepping past step) steps

-- Where all that was read is told, a command is begun if it is the one that is owed, and a piece of at most 4,096 bytes is
-- read if none is.
abbrev pub MayStep : LinkPast → Step → Type 0
MayStep past (begins word) = IsAllTold past × (word_due past ≡ Some word)
MayStep past (reads piece) = IsAllTold past × (word_due past ≡ None) × (length piece ≤ 4096)
MayStep past (posts item) = Unit {0}

abbrev pub AreSteps : LinkPast → List Step → Type 0
AreSteps past [] = Unit {0}
AreSteps past (step ∷ steps) = MayStep past step × AreSteps (stepping past step) steps

abbrev pub bytes_of : Step → List ℕ
bytes_of (begins word) = []
bytes_of (reads piece) = piece
bytes_of (posts item) = []

abbrev pub events_told : Item → List GatewayEvent
events_told (announces config) = announce config ∷ []
events_told (measures m) = measure m ∷ []
events_told (skips r) = []
events_told (rejects_config r) = []
events_told (rejects_data r) = []
events_told passes_over = []

abbrev pub events_of : Step → List GatewayEvent
events_of (begins word) = []
events_of (reads piece) = []
events_of (posts item) = events_told item

abbrev pub frame_of : ℕ → Step → List ℕ
frame_of source (begins word) = written source 0 (word_number word)
frame_of source (reads piece) = []
frame_of source (posts item) = []

abbrev pub event_posted : Posted → GatewayEvent
event_posted p = p.0

-- What stands at the other ends of a link, as far as they tell it: the bytes that its reader has left, the bytes that its writer
-- was given, what was posted at its gate, and which events its gate takes.
pub record Wires : Type 0 where
  pub unread : Option (List ℕ)
  pub written : Option (List ℕ)
  pub posted : Option (List Posted)
  pub takes : GatewayEvent → Bool

abbrev pub wires : Option (List ℕ) → Option (List ℕ) → Option (List Posted) → (GatewayEvent → Bool) → Wires
wires unread written posted takes = record { unread = unread; written = written; posted = posted; takes = takes }

-- From this past, with these bytes left to write, some steps were done: the reader gave the pieces, those of their events that the
-- gate takes were posted, each once and in order, and the commands were written behind what was left, but for what is left now.
pub record RanFrom (past : LinkPast) (left : List ℕ) (v : Linking) (before after : Wires) : Type 0 where
  pub steps : List Step
  pub are : AreSteps past steps
  pub shows : ShowsLink v (after_steps past steps)
  pub read : Consumes before.unread after.unread (flat_map bytes_of steps)
  pub calls : List Posted
  pub posted : Notes before.posted after.posted calls
  pub events : map event_posted calls ≡ filter before.takes (flat_map events_of steps)
  pub takes : after.takes ≡ before.takes
  pub out : List ℕ
  pub wrote : Appends before.written after.written out
  pub goes_on : out ++ v.left ≡ left ++ flat_map (frame_of past.source) steps

-- Whatever past the link shows before, it ran from there, and this holds of that past and of its steps.
abbrev pub Ran : (LinkPast → List Step → Type 0) → Linking → Linking → Wires → Wires → Type 0
Ran Did v v' before after = (past : LinkPast) → ShowsLink v past → (ran : RanFrom past v.left v' before after) × Did past ran.steps

-- the same where all that it was fed is told
abbrev pub RanOn : (LinkPast → List Step → Type 0) → Linking → Linking → Wires → Wires → Type 0
RanOn Did v v' before after = (past : LinkPast) → ShowsLink v past → IsAllTold past → (ran : RanFrom past v.left v' before after) × Did past ran.steps
