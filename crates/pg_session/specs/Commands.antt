-- What a session makes of a subscriber's bytes: the commands of its frames.
use Rattle.std.specs.Prelude.{◌≡◌, ◌<◌, ℕ, length, List, [], ◌∷◌, ◌++◌, map, Option, Some, None, Result, Ok, Err}
use Rattle.pg_wire.specs.declared.refusal.Refusal.{Refusal}
use Rattle.pg_wire.specs.Number.{number_of}
use Rattle.pg_wire.specs.Frame.{break_of, skip_of}
use Rattle.pg_wire.specs.Split.{frames_in, rest_in}
use Rattle.pg_wire.specs.Stream as wire
use Rattle.pg_wire.specs.Stream.{Deframing, fresh, fed, stopped}
use Rattle.pg_wire.specs.Held.{IsBreak}
use Rattle.pg_command.specs.declared.command.Command.{Command}
use Rattle.pg_command.specs.Reading.{command_of}
use Rattle.pg_audit.specs.declared.counters.PmuStats.{PmuStats}
use Rattle.pg_audit.specs.Counting.{more, counted, no_pmu_stats}
use Rattle.pg_session.specs.declared.session.Next.{Next}
use Rattle.pg_session.specs.declared.session.Next.TheVariants.{Cmd, Ignored, More, Broken}

-- what a frame is to a session: a command, or ignored for a reason
pub data Item : Type 0 where
  commands : Command → Item
  ignores : Refusal → Item

abbrev pub item_read : Result Command Refusal → Item
item_read (Ok c) = commands c
item_read (Err r) = ignores r

-- a frame that is skipped is no command, whatever it holds
abbrev pub item_kept : List ℕ → Option Refusal → Item
item_kept frame None = item_read (command_of frame)
item_kept frame (Some r) = ignores r

abbrev pub item_of : List ℕ → Item
item_of frame = item_kept frame (skip_of frame)

-- what a stream's frames are, one after another, and the break that shows behind them
abbrev pub items_of : List ℕ → List Item
items_of stream = map item_of (frames_in stream)

abbrev pub break_in : List ℕ → Option Refusal
break_in stream = break_of (rest_in stream)

-- each command counts as taken, each ignored frame under its reason
abbrev pub with_session_item : PmuStats → Item → PmuStats
with_session_item stats (commands c) = record stats { taken = more stats.taken 1 }
with_session_item stats (ignores r) = record stats { by_reason = counted stats.by_reason (number_of r) }

abbrev pub with_session_items : PmuStats → List Item → PmuStats
with_session_items stats [] = stats
with_session_items stats (item ∷ items) = with_session_items (with_session_item stats item) items

abbrev pub session_stats : List Item → PmuStats
session_stats items = with_session_items no_pmu_stats items

-- What a session holds: its subscriber's number, the bytes of a frame that has begun, its counters, the length of the buffer
-- that it keeps for drains, and what is left to write of what the last drain handed out.
pub record Hearing : Type 0 where
  pub sub : ℕ
  pub bytes : Deframing
  pub stats : PmuStats
  pub buffer : ℕ
  pub left : List ℕ

abbrev pub unheard : ℕ → Hearing
unheard sub = record { sub = sub; bytes = fresh; stats = no_pmu_stats; buffer = 16384; left = [] }

abbrev pub heard : Hearing → List ℕ → Hearing
heard v piece = record v { bytes = fed v.bytes piece }

-- Fed this stream since it was new, the session has given these items, and its counters are theirs.
pub record ShowsHearing (v : Hearing) (stream : List ℕ) (given : List Item) : Type 0 where
  pub frames : List (List ℕ)
  pub bytes : wire.ShowsStream v.bytes stream frames
  pub items : given ≡ map item_of frames
  pub stats : v.stats ≡ session_stats given

-- the answer that gives an item
abbrev pub next_of : Item → Next
next_of (commands c) = Cmd c
next_of (ignores r) = Ignored r

-- What a call gives of the stream of which these items were given before: each is the next one, and there is no more only
-- where all items of the stream were given.
abbrev pub GivesCommandOf : List ℕ → List Item → Next → Hearing → Type 0
GivesCommandOf stream given (Cmd c) new = ShowsHearing new stream (given ++ commands c ∷ [])
GivesCommandOf stream given (Ignored r) new = ShowsHearing new stream (given ++ ignores r ∷ [])
GivesCommandOf stream given More new = (given ≡ items_of stream) × (break_in stream ≡ None) × ShowsHearing new stream given
GivesCommandOf stream given (Broken r) new = (given ≡ items_of stream) × (break_in stream ≡ Some r) × ShowsHearing new stream given

-- Whatever stream and items the session shows before a call, it shows the next of them after it.
abbrev pub GivesCommand : Hearing → Next → Hearing → Type 0
GivesCommand old next new = (stream : List ℕ) (given : List Item) → ShowsHearing old stream given → GivesCommandOf stream given next new

-- Each command and each ignored frame takes bytes off those that are held; behind a break none is held; and where no whole
-- frame is, less than one is held, so that there is room.
abbrev pub Holds : Hearing → Next → Hearing → Type 0
Holds old (Cmd c) new = length new.bytes.held < length old.bytes.held
Holds old (Ignored r) new = length new.bytes.held < length old.bytes.held
Holds old (Broken r) new = IsBreak r × (new ≡ record old { bytes = stopped r })
Holds old More new = (new ≡ old) × (length new.bytes.held < 65535)
