-- What a session's loop reads, posts and writes.
use Rattle.std.specs.Prelude.{◌≡◌, ◌≢◌, ◌⊎◌, ℕ, Bool, true, false, List, [], ◌∷◌, ◌++◌, map, Option, Some, None}
use Rattle.std.specs.List.{flat_map}
use Rattle.std.specs.Io.KnownBytes.{Appends, Consumes}
use mathlib.Core.List.{IsPrefix}
use Rattle.pg_wire.specs.declared.refusal.Refusal.{Refusal}
use Rattle.pg_wire.specs.Number.{number_of}
use Rattle.pg_command.specs.declared.command.Command.{Command}
use Rattle.pg_session.specs.Events as session
use Rattle.pg_session.specs.Events.{SubscriberEvent}
use Rattle.pg_session.specs.Private.{ReplyValue, done, refused, handed}
use Rattle.pg_session.specs.Commands.{Hearing, Item, commands, ignores, items_of, break_in, ShowsHearing}
use Rattle.pg_gateway.specs.GatewayEvents.{asks, Answer, tells, sub_counts, pmu_counts, entry, stands, those_waiting}
use Rattle.pg_gateway.specs.Posting.{Posted, Notes}
use Rattle.pg_ingest.specs.declared.run.End.{End}
use Rattle.pg_ingest.specs.declared.run.End.TheVariants.{Closed, Quiet, Stalled, Fault}

-- what a session posts: its subscriber's commands, drains, and that it hangs up
pub data Post : Type 0 where
  passes : Command → Post
  drains : Post
  hangs_up : Post

-- a post with its answer
abbrev pub Call : Type 0
Call = Post × Answer

-- what a post says, where the buffer for drains has this length
abbrev pub subscriber_event_of : ℕ → Post → SubscriberEvent
subscriber_event_of buffer (passes c) = session.command c.stream c.word
subscriber_event_of buffer drains = session.drain buffer
subscriber_event_of buffer hangs_up = session.hangup

abbrev pub posted_by : Hearing → Call → Posted
posted_by v call = (asks v.sub (subscriber_event_of v.buffer call.0), call.1)

-- the command of an item, and of a post, where it is one
abbrev pub command_in : Item → List Command
command_in (commands c) = c ∷ []
command_in (ignores r) = []

abbrev pub passed_in : Post → List Command
passed_in (passes c) = c ∷ []
passed_in drains = []
passed_in hangs_up = []

abbrev pub passed_by : Call → List Command
passed_by call = passed_in call.0

-- the bytes that an answer hands out
abbrev pub bytes_told : ReplyValue → List ℕ
bytes_told (handed bytes begun gap) = bytes
bytes_told (done made kept) = []
bytes_told (refused r) = []

abbrev pub bytes_answered : Answer → List ℕ
bytes_answered (tells t) = bytes_told t
bytes_answered (sub_counts s) = []
bytes_answered (pmu_counts s) = []
bytes_answered (those_waiting us) = []
bytes_answered (entry e) = []
bytes_answered (stands s) = []

-- The answer to a drain hands out what is to be written.
abbrev pub handed_on : Post → Answer → List ℕ
handed_on (passes c) a = []
handed_on drains a = bytes_answered a
handed_on hangs_up a = []

abbrev pub handed_by : Call → List ℕ
handed_by call = handed_on call.0 call.1

-- A drain is posted only where these bytes begin what is written.
abbrev pub Follows : List ℕ → List ℕ → Post → Type 0
Follows out before (passes c) = Unit {0}
Follows out before drains = IsPrefix before out
Follows out before hangs_up = Unit {0}

-- Each drain is posted only where all that was handed out before it is written.
abbrev pub AreWritten : List ℕ → List ℕ → List Call → Type 0
AreWritten out before [] = Unit {0}
AreWritten out before (call ∷ calls) = Follows out before call.0 × AreWritten out (before ++ handed_by call) calls

-- From this session, which was fed this stream and gave these items, to the next: what was read is fed to it; of the items
-- that it gives the commands are posted, in order and each once, and besides them nothing but drains and that it hangs up; and
-- what the drains hand out is written behind what was left, but for what is left now.
pub record RanFrom (stream : List ℕ) (given : List Item) (v v' : Hearing) (r r' w w' : Option (List ℕ)) (p p' : Option (List Posted)) : Type 0 where
  pub bytes : List ℕ
  pub items : List Item
  pub calls : List Call
  pub out : List ℕ
  pub sub : v'.sub ≡ v.sub
  pub buffer : v'.buffer ≡ v.buffer
  pub shows : ShowsHearing v' (stream ++ bytes) (given ++ items)
  pub read : Consumes r r' bytes
  pub posted : Notes p p' (map (posted_by v) calls)
  pub passed : flat_map passed_by calls ≡ flat_map command_in items
  pub wrote : Appends w w' out
  pub goes_on : out ++ v'.left ≡ v.left ++ flat_map handed_by calls
  pub written : AreWritten out v.left calls

-- Whatever the session was fed and gave before, it ran from there.
abbrev pub Ran : Hearing → Hearing → Option (List ℕ) → Option (List ℕ) → Option (List ℕ) → Option (List ℕ)
    → Option (List Posted) → Option (List Posted) → Type 0
Ran v v' r r' w w' p p' = (stream : List ℕ) (given : List Item) → ShowsHearing v stream given → RanFrom stream given v v' r r' w w' p p'

abbrev pub IsNoHangup : Post → Type 0
IsNoHangup (passes c) = Unit {0}
IsNoHangup drains = Unit {0}
IsNoHangup hangs_up = ⊥

abbrev pub HasNoHangup : List Call → Type 0
HasNoHangup [] = Unit {0}
HasNoHangup (call ∷ calls) = IsNoHangup call.0 × HasNoHangup calls

-- This is the last post, and none before it hangs up.
abbrev pub IsLast : Post → List Call → Type 0
IsLast post calls = (before : List Call) × (a : Answer) × (calls ≡ before ++ (post, a) ∷ []) × HasNoHangup before

-- Where a call ends as Closed or Fault its last post hangs up, where it ends as Quiet it is a drain.
abbrev pub EndsWith : End → List Call → Type 0
EndsWith Closed calls = IsLast hangs_up calls
EndsWith Quiet calls = IsLast drains calls
EndsWith Stalled calls = HasNoHangup calls
EndsWith (Fault n) calls = IsLast hangs_up calls

-- ---- in which order it reads and posts

pub data Doing : Type 0 where
  -- it reads these bytes: none where the reader has ended
  reads : List ℕ → Doing
  -- it finds that the reader would block
  waits : Doing
  posts : Call → Doing

abbrev pub read_by : Doing → List ℕ
read_by (reads bytes) = bytes
read_by waits = []
read_by (posts call) = []

abbrev pub call_by : Doing → List Call
call_by (reads bytes) = []
call_by waits = []
call_by (posts call) = call ∷ []

-- A drain is due once bytes came or the reader would block, and until it is posted.
abbrev pub due_read : Bool → List ℕ → Bool
due_read due [] = due
due_read due (byte ∷ bytes) = true

abbrev pub due_posted : Bool → Post → Bool
due_posted due (passes c) = due
due_posted due drains = false
due_posted due hangs_up = due

abbrev pub due_by : Bool → Doing → Bool
due_by due (reads bytes) = due_read due bytes
due_by due waits = true
due_by due (posts call) = due_posted due call.0

-- A drain is posted only where it is due, behind the commands of all that was read, and where that is not broken.
abbrev pub MayPost : Bool → List ℕ → List Command → Post → Type 0
MayPost due stream passed (passes c) = Unit {0}
MayPost due stream passed drains = (due ≡ true) × (passed ≡ flat_map command_in (items_of stream)) × (break_in stream ≡ None)
MayPost due stream passed hangs_up = Unit {0}

abbrev pub MayDo : Bool → List ℕ → List Command → Doing → Type 0
MayDo due stream passed (reads bytes) = Unit {0}
MayDo due stream passed waits = Unit {0}
MayDo due stream passed (posts call) = MayPost due stream passed call.0

-- so one after another, where this was read and these commands were passed on before
abbrev pub InOrder : Bool → List ℕ → List Command → List Doing → Type 0
InOrder due stream passed [] = Unit {0}
InOrder due stream passed (doing ∷ doings) =
    MayDo due stream passed doing
    × InOrder (due_by due doing) (stream ++ read_by doing) (passed ++ flat_map passed_by (call_by doing)) doings

abbrev pub has_wait : List Doing → Bool
has_wait [] = false
has_wait (reads bytes ∷ doings) = has_wait doings
has_wait (waits ∷ doings) = true
has_wait (posts call ∷ doings) = has_wait doings

-- A call drains because the reader would block only where it ends so, or where the write behind that drain is cut short.
abbrev pub WaitsAt : End → Bool → Type 0
WaitsAt Closed waited = waited ≡ false
WaitsAt Quiet waited = Unit {0}
WaitsAt Stalled waited = Unit {0}
WaitsAt (Fault n) waited = (n ≡ 40) ⊎ (waited ≡ false)

-- What was read and posted, in its order: each drain but one for which the reader would block is posted behind a read of its own
-- that gave bytes. A reader tells its bytes and not its reads, so this order is one that fits them.
pub record DrainsInOrder (end : End) (stream : List ℕ) (given : List Item) (bytes : List ℕ) (calls : List Call) : Type 0 where
  pub doings : List Doing
  pub read : flat_map read_by doings ≡ bytes
  pub posted : flat_map call_by doings ≡ calls
  pub order : InOrder false stream (flat_map command_in given) doings
  pub waited : WaitsAt end (has_wait doings)

-- A call: it ran, and posted all commands of the frames of all that the session was fed.
pub record ServedFrom (end : End) (stream : List ℕ) (given : List Item) (v v' : Hearing) (r r' w w' : Option (List ℕ)) (p p' : Option (List Posted)) : Type 0 where
  pub ran : RanFrom stream given v v' r r' w w' p p'
  pub all : given ++ ran.items ≡ items_of (stream ++ ran.bytes)
  pub last : EndsWith end ran.calls
  pub drained : DrainsInOrder end stream given ran.bytes ran.calls

abbrev pub Served : End → Hearing → Hearing → Option (List ℕ) → Option (List ℕ) → Option (List ℕ) → Option (List ℕ)
    → Option (List Posted) → Option (List Posted) → Type 0
Served end v v' r r' w w' p p' =
    (stream : List ℕ) (given : List Item) → ShowsHearing v stream given → ServedFrom end stream given v v' r r' w w' p p'

-- Whatever the session was fed, this is the break behind it, if there is one.
abbrev pub BreaksBy : Option Refusal → Hearing → Type 0
BreaksBy broken v = (stream : List ℕ) (given : List Item) → ShowsHearing v stream given → break_in stream ≡ broken

-- Why a call ends, as far as it shows. All is written, but where a write was cut short.
abbrev pub EndsBy : End → Hearing → Type 0
EndsBy Closed v = BreaksBy None v × (v.left ≡ [])
EndsBy Quiet v = BreaksBy None v × (v.left ≡ [])
EndsBy Stalled v = v.left ≢ []
EndsBy (Fault n) v =
    ((n ≡ 39) × (v.left ≡ [])) ⊎ ((n ≡ 40) × (v.left ≢ []))
    ⊎ ((refusal : Refusal) × (n ≡ number_of refusal) × BreaksBy (Some refusal) v × (v.left ≡ []))
