-- What a link's loop did over all its calls since the link was new, was reset or asked its source again.
use Rattle.std.specs.Prelude.{◌≡◌, ◌≤◌, ◌<◌, ℕ, false, if◌then◌else◌, List, [], ◌∷◌, ◌++◌, filter, map, reverse, length}
use Rattle.std.specs.List.{flat_map}
use Rattle.std.specs.Io.KnownBytes.{Appends, Consumes}
use Rattle.pg_wire.specs.Split.{frames_in}
use Rattle.pg_command.specs.declared.word.Word.{Word}
use Rattle.pg_command.specs.declared.word.Word.TheVariants.{StartData, SendCfgTwo}
use Rattle.pg_command.specs.Words.{word_number}
use Rattle.pg_command.specs.Spelling.{written}
use Rattle.pg_gateway.specs.Posting.{Posted, Notes}
use Rattle.pg_ingest.specs.declared.run.End.{End}
use Rattle.pg_ingest.specs.declared.run.End.TheVariants.{Closed, Quiet, Stalled, Fault}
use Rattle.pg_ingest.specs.Items.{Item, AreTold}
use Rattle.pg_ingest.specs.Commands.{asks, tells, told_in, owes_config, owes_start}
use Rattle.pg_ingest.specs.Linking.{Linking}
use Rattle.pg_ingest.specs.Shown.{LinkPast, IsAllTold}
use Rattle.pg_ingest.specs.Runs.{after_steps, events_told, event_posted, Wires, RanFrom, Ran}
use Rattle.pg_ingest.specs.Ends.{is_cut, LastRead, Ends}

-- a new or a reset link
abbrev pub IsFresh : LinkPast → Type 0
IsFresh past = (past.stream ≡ []) × (past.acts ≡ [])

-- the last piece is empty where the reader had ended or would have blocked
abbrev pub EndsDry : End → List ℕ → Type 0
EndsDry Closed piece = piece ≡ []
EndsDry Quiet piece = piece ≡ []
EndsDry Stalled piece = Unit {0}
EndsDry (Fault n) piece = Unit {0}

-- What `run_link` ensures of a call: all events of the bytes that were read are posted, each once and in order, but for those that
-- the gate does not take; the commands that fall due before a read are written, and the end has its cause; whatever was begun is
-- written whole, but where a write was cut short.
pub record IsCall (end : End) (turns : ℕ) (v v' : Linking) (before after : Wires) : Type 0 where
  pub ran : Ran (Ends end turns v'.left after.unread) v v' before after
  pub whole : 0 < turns → is_cut end ≡ false → v'.left ≡ []

-- The calls since this past are one run, of which the last ended so.
pub record SoFar (end : End) (past : LinkPast) (v : Linking) (before after : Wires) : Type 0 where
  pub ran : RanFrom past [] v before after
  pub told : IsAllTold (after_steps past ran.steps)
  pub last : is_cut end ≡ false → (piece : List ℕ) × EndsDry end piece × LastRead piece ran.steps
  pub whole : is_cut end ≡ false → v.left ≡ []

-- a piece that was read, and what was told behind it
pub record Turn : Type 0 where
  pub piece : List ℕ
  pub items : List Item

abbrev pub bytes_read : List Turn → List ℕ
bytes_read turns = flat_map (λ (turn : Turn). turn.piece) turns

abbrev pub items_read : List Turn → List Item
items_read turns = flat_map (λ (turn : Turn). turn.items) turns

-- what `next_out` gives when it is asked until none
abbrev pub words_due : LinkPast → List Word
words_due past =
    (if owes_config (reverse past.acts) then SendCfgTwo ∷ [] else []) ++ (if owes_start (reverse past.acts) then StartData ∷ [] else [])

-- `next_out` is asked until none, a piece is read, and what it completes is told
abbrev pub turning : LinkPast → Turn → LinkPast
turning past turn = record past { stream = past.stream ++ turn.piece; acts = past.acts ++ map asks (words_due past) ++ map tells turn.items }

abbrev pub after_turns : LinkPast → List Turn → LinkPast
after_turns past [] = past
after_turns past (turn ∷ turns) = after_turns (turning past turn) turns

-- Each piece has at most 4,096 bytes, and behind each of them all that was read is told.
abbrev pub AreTurns : LinkPast → List Turn → Type 0
AreTurns past [] = Unit {0}
AreTurns past (turn ∷ turns) = (length turn.piece ≤ 4096) × IsAllTold (turning past turn) × AreTurns (turning past turn) turns

-- the commands of a link, `next_out` being asked until none before each piece
abbrev pub commands_in : LinkPast → List Turn → List Word
commands_in past [] = []
commands_in past (turn ∷ turns) = words_due past ++ commands_in (turning past turn) turns

-- their frames: of this source, SOC 0
abbrev pub frames_of : ℕ → List Word → List ℕ
frames_of source words = flat_map (λ word. written source 0 (word_number word)) words

-- For some cutting of the bytes that were read into pieces, what is told of these bytes, behind those of the past, was posted where the
-- gate takes it, each event once and in order; and what was written, with what is left to write, is the frames of the link's commands, but for some at the end that
-- were not asked for. Where the last call was not cut short by its writer, there are none of those and nothing is left; and
-- where its reader had ended or would have blocked, the last piece is empty.
pub record Served (end : End) (past : LinkPast) (left : List ℕ) (before after : Wires) : Type 0 where
  pub turns : List Turn
  pub are : AreTurns past turns
  pub read : Consumes before.unread after.unread (bytes_read turns)
  pub told : AreTold past.source (reverse (frames_in (past.stream ++ bytes_read turns))) (reverse (told_in past.acts ++ items_read turns))
  pub calls : List Posted
  pub posted : Notes before.posted after.posted calls
  pub events : map event_posted calls ≡ filter before.takes (flat_map events_told (items_read turns))
  pub out : List ℕ
  pub wrote : Appends before.written after.written out
  pub unasked : List Word
  pub commands : out ++ left ++ frames_of past.source unasked ≡ frames_of past.source (commands_in past turns)
  pub whole : is_cut end ≡ false → (unasked ≡ []) × (left ≡ []) × ((before : List Turn) × (turn : Turn) × (turns ≡ before ++ turn ∷ []) × EndsDry end turn.piece)
