-- How a stream is read in one connection, and that each of its data frames is read by its own layout. The connection is told here in full: the
-- stream's layout may change at any time, and its frames may be made while it is on; CFG-2s go out before frames that wait; what a drain handed out
-- is written behind a question, by the verdict.
use Rattle.std.specs.Prelude.{◌≡◌, ◌≢◌, ◌⊎◌, ℕ, ◌+◌, nat_le, Bool, true, false, if◌then◌else◌, List, [], ◌∷◌, ◌++◌, length, map, take, drop, Option, Some, None, ◌==◌}
use Rattle.std.specs.List.{All}
use Rattle.pg_limits.specs.Switched.{find, none}
use Rattle.pg_limits.specs.Windows.{begun_at, drained, is_configured, judged, noted, settled, unknown}
use Rattle.pg_limits.specs.Misreading.{IsRight, Lengths}
use Rattle.pg_limits.specs.declared.layouts.OnChange.{OnChange}
use Rattle.pg_limits.specs.declared.layouts.OnChange.TheVariants.{Keep, Safe}
use Rattle.pg_limits.specs.declared.known_layout.FoundStream.{FoundStream}
use Rattle.pg_limits.specs.declared.known_layout.KnownLayout.{KnownLayout}
use Rattle.pg_limits.specs.declared.known_layout.ServedOnce.{ServedOnce}
use Rattle.pg_limits.specs.declared.known_layout.Verdict.{Verdict}
use Rattle.pg_limits.specs.declared.known_layout.Verdict.TheVariants.{Nothing, AskAgain, SendConfig, Disconnect}

-- what goes to the reader: a CFG-2 of a layout, or a data frame of one
pub data Item : Type 0 where
  config : ℕ → Item
  frame : ℕ → Item

-- by which layout the reader goes behind some items
abbrev pub reads_behind : ℕ → List Item → ℕ
reads_behind reads [] = reads
reads_behind reads (config layout ∷ items) = reads_behind layout items
reads_behind reads (frame layout ∷ items) = reads_behind reads items

-- each data frame among some items: by which layout it is read, and of which it is
abbrev pub readings : ℕ → List Item → List (ℕ × ℕ)
readings reads [] = []
readings reads (config layout ∷ items) = readings layout items
readings reads (frame layout ∷ items) = (reads, layout) ∷ readings reads items

-- a connection with a stream: what is known of it; its present layout, and the one from when the subscriber began to be served once more; whether it
-- is on; the layouts of its frames that wait; what is to be written; by which layout its reader goes; of what the reader did while it was served,
-- whether it asked for CFG-2, and whether it started or stopped the stream last; whether the last drain, behind all commands, handed out all that
-- waited; and each frame that was written
pub record Connection : Type 0 where
  pub known : KnownLayout
  pub present : ℕ
  pub begun : ℕ
  pub is_on : Bool
  pub waiting : List ℕ
  pub items : List Item
  pub reads : ℕ
  pub is_asked : Bool
  pub switched : Option Bool
  pub is_emptied : Bool
  pub is_open : Bool
  pub written : List (ℕ × ℕ)

pub data Step : Type 0 where
  change : Step
  make : Step
  ask : Step
  switch : Bool → Step
  pay : Step
  drain : ℕ → Step
  question : FoundStream → ServedOnce → OnChange → Step
  pass : ServedOnce → Step

-- a CFG-2 of the present layout is put among the replies, which go out before the frames that wait
abbrev pub queued : Connection → Connection
queued c = record c { items = c.items ++ (config c.present ∷ []) }

-- what was drained is written, and the subscriber is served once more
abbrev pub answered : KnownLayout → Connection → Connection
answered k c = record c {
  known = settled k;
  begun = c.present;
  items = [];
  reads = reads_behind c.reads c.items;
  is_asked = false;
  switched = None;
  is_emptied = false;
  written = c.written ++ readings c.reads c.items;
}

abbrev pub by_verdict : Connection → KnownLayout × Verdict → Connection
by_verdict c (k, Nothing) = answered k c
by_verdict c (k, AskAgain) = answered k c
by_verdict c (k, SendConfig) = answered k c
by_verdict c (k, Disconnect) = record c { is_open = false }

abbrev pub stepped : Step → Connection → Connection
stepped change c = record c { present = c.present + 1 }
stepped make c = record c { waiting = c.waiting ++ (c.present ∷ []) }
stepped ask c = record (queued c) { is_asked = true }
stepped (switch is_on) c = record c { is_on = is_on; switched = Some is_on; is_emptied = false }
stepped pay c = record (queued c) { known = record c.known { owes_config = false } }
stepped (drain n) c = record c {
  items = c.items ++ map frame (take n c.waiting);
  waiting = drop n c.waiting;
  is_emptied = nat_le (length c.waiting) n;
}
stepped (question f s rule) c = by_verdict c (judged f s rule (drained s.is_emptied c.known))
stepped (pass s) c = answered (noted s (drained s.is_emptied c.known)) c

-- What happened while the subscriber was served is told as it was: which of the commands were given, that the last drain handed out all that
-- waited, and that nothing changed meanwhile.
pub record Serves (c : Connection) (s : ServedOnce) : Type 0 where
  pub switched : find c.known.stream s.switched ≡ c.switched
  pub configured : is_configured s c.known ≡ true → c.is_asked ≡ true
  pub emptied : s.is_emptied ≡ true → c.is_emptied ≡ true
  pub quiet : s.is_quiet ≡ true → c.begun ≡ c.present

-- the stream is found as it is
pub record Finds (len : Lengths) (c : Connection) (f : FoundStream) : Type 0 where
  pub stream : f.stream ≡ c.known.stream
  pub definition : f.definition ≡ c.known.definition
  pub layout : f.layout ≡ c.present
  pub on : f.is_on ≡ c.is_on
  pub right : IsRight len f

abbrev pub HasNoFrame : List Item → Type 0
HasNoFrame [] = Unit {0}
HasNoFrame (config layout ∷ items) = HasNoFrame items
HasNoFrame (frame layout ∷ items) = ⊥

-- A step that may come. Where the stream was found off and changed, what is drained is held back, and no command is read behind frames that were
-- drained. The streams are not asked about only where nothing changed since the last answer.
abbrev pub May : Lengths → Connection → Step → Type 0
May len c change = Unit {0}
May len c make = c.is_on ≡ true
May len c ask = (c.known.newest ≡ c.begun) ⊎ HasNoFrame c.items
May len c (switch is_on) = Unit {0}
May len c pay = Unit {0}
May len c (drain n) = Unit {0}
May len c (question f s rule) = Serves c s × Finds len c f × (rule ≢ Keep)
May len c (pass s) = Serves c s × (c.present ≡ c.known.newest)

-- steps one after another, up to where the connection is closed
abbrev pub run : Connection → List Step → Connection
run c [] = c
run c (step ∷ steps) = run (if c.is_open then stepped step c else c) steps

abbrev pub MayAll : Lengths → Connection → List Step → Type 0
MayAll len c [] = Unit {0}
MayAll len c (step ∷ steps) = May len c step × MayAll len (if c.is_open then stepped step c else c) steps

-- the stream was started, its reader goes by the present layout, and none of its frames waits
abbrev pub started : KnownLayout → FoundStream → Connection
started k f = record {
  known = record (begun_at f k) { is_read = true; is_started = true; is_idle = false };
  present = f.layout;
  begun = f.layout;
  is_on = true;
  waiting = [];
  items = [];
  reads = f.layout;
  is_asked = false;
  switched = None;
  is_emptied = false;
  is_open = true;
  written = [];
}

-- a frame that is as long as those of the layout by which it is read is of that layout
abbrev pub IsReadRight : Lengths → KnownLayout → ℕ × ℕ → Type 0
IsReadRight len k reading = len k.stream k.definition reading.1 ≡ len k.stream k.definition reading.0 → reading.1 ≡ reading.0

-- Whenever the stream's layout changes and whatever its reader commands, by another rule than Keep: the reader takes no data frame for one of another
-- layout.
abbrev pub ReadRight : Type 0
ReadRight = (len : Lengths) (k : KnownLayout) (f : FoundStream) (steps : List Step) → MayAll len (started k f) steps
    → All (IsReadRight len (started k f).known) (run (started k f) steps).written

-- ---- an example: such connections there are

-- data frames of layout 0 have 26 bytes, those of later ones 36
abbrev pub two_lengths : Lengths
two_lengths stream definition layout = if layout == 0 then 26 else 36

abbrev pub found_at : ℕ → List ℕ → FoundStream
found_at layout lengths = record { stream = 101; definition = 1; layout = layout; lengths = lengths; is_on = true }

-- nothing was commanded, and all was handed out
abbrev pub handed_out : ServedOnce
handed_out = record { configured = none; switched = none; is_quiet = false; is_emptied = true }

-- a frame is made and written; the layout changes, and one of the new layout is drained; a CFG-2 is sent, and one more frame
abbrev pub example : List Step
example =
    make ∷ drain 1 ∷ question (found_at 0 (26 ∷ [])) handed_out Safe ∷ change ∷ make ∷ drain 1
    ∷ question (found_at 1 (36 ∷ 26 ∷ [])) handed_out Safe ∷ pay ∷ make ∷ drain 1 ∷ pass handed_out ∷ []

abbrev pub example_start : Connection
example_start = started (unknown 101) (found_at 0 (26 ∷ []))

-- The three frames are written; the second one is read by the old layout, of which it is not, but it is longer, so that no reader takes it.
pub record ReadingGoesOn : Type 0 where
  pub may : MayAll two_lengths example_start example
  pub written : (run example_start example).written ≡ (0, 0) ∷ (0, 1) ∷ (1, 1) ∷ []
