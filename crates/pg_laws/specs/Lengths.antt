-- Each data frame of a stream is as long as the stream's layouts say.
use Rattle.std.specs.Prelude.{◌≡◌, ◌+◌, ◌%◌, ◌^◌, ◌<◌, ◌≤◌, ℕ, IsTrue, is_some, List, [], ◌∷◌, length, Option, Some, None, IfSome, slice_index}
use Rattle.std.specs.List.{AllByRecursion}
use Rattle.std.specs.Arc.{arc_value}
use Rattle.pg_config.specs.Parts.{Part, IsPart, IsSource, data_len}
use Rattle.pg_data.specs.Measurements.{IsMeasurement}
use Rattle.pg_data.specs.Pieces.{Piece}
use Rattle.pg_align.specs.Histories.{StreamHistory}
use Rattle.pg_outcfg.specs.Listing.{Listing, config_at}
use Rattle.pg_session.specs.declared.event.PrivateEvent.{PrivateEvent}
use Rattle.pg_session.specs.declared.event.PrivateEvent.TheVariants as private
use Rattle.pg_session.specs.Events.{SubscriberEvent, Announcing, Sample, subscriber_event, grant, announce, measure}
use Rattle.pg_session.specs.declared.layouts.Layouts.{Layouts}
use Rattle.pg_session.specs.Streams.{StreamOf, frame_len}
use Rattle.pg_session.specs.Private.{ReplyValue, next, stream_at}
use Rattle.pg_session.specs.ByAll.{by_arrivals, by_numbers}
use Rattle.pg_session.specs.Shown.{Model, SubscriberValue, ShowsPrivate, begin}
use Rattle.pg_session.specs.Ready.{Accepts}
use Rattle.pg_session.specs.Laws.{Run, after}
use Rattle.pg_session.specs.Stamps.{IsLegal, made_at}

-- a configuration that is announced is one that its reader checked
abbrev pub IsChecked : Announcing → Type 0
IsChecked a = IsPart a.config

-- a block is as long as this configuration says, if there is one
abbrev pub IsLongAs : Option Part → List ℕ → Type 0
IsLongAs None block = Unit {0}
IsLongAs (Some part) block = length block ≡ data_len part

-- a measured block is as long as the configuration by which its PMU is listed says
abbrev pub IsLongBy : Listing → Sample → Type 0
IsLongBy listed s = IsLongAs (config_at listed s.key) s.block

-- What an event brings was read: its configurations were checked, and its blocks are as long as the listed configurations say.
abbrev pub IsRead : Listing → SubscriberEvent → Type 0
IsRead listed (grant key config) = IfSome config IsPart
IsRead listed (announce list) = AllByRecursion IsChecked list
IsRead listed (measure soc quality frac samples) = AllByRecursion (IsLongBy listed) samples
IsRead listed _ = Unit {0}

-- the same of each event of a run, by the CFG-1 list before it
abbrev pub AreRead : Model → Run → Type 0
AreRead p [] = Unit {0}
AreRead p (x ∷ xs) = IsRead p.listed x.0 × AreRead (next by_arrivals by_numbers p x.0 x.1) xs

-- a state in which a subscriber can be, behind a run of events that were read, with replies that may come
pub record IsReached (p : Model) : Type 0 where
  pub size : ℕ
  pub limit : ℕ
  pub last : Option ℕ
  pub run : Run
  pub legal : IsLegal (begin size limit last) run
  pub read : AreRead (begin size limit last) run
  pub state : after (begin size limit last) run ≡ p

-- The stream of a number is there before each event of the run, so that all of them are of one definition.
abbrev pub StaysDefined : ℕ → Model → Run → Type 0
StaysDefined number p [] = Unit {0}
StaysDefined number p (x ∷ xs) = IsTrue (is_some (stream_at p.streams number)) × StaysDefined number (next by_arrivals by_numbers p x.0 x.1) xs

-- These layouts are the new ones after so many events. The effective blocks changed some times, at most once at each event, and each of
-- the old lengths stands as many places further back, as far as the 32 that are kept go.
pub record AreKnownSince (events : ℕ) (old new : Layouts) : Type 0 where
  pub definition : new.definition ≡ old.definition
  pub changes : ℕ
  pub few : changes ≤ events
  pub number : new.number ≡ (old.number + changes) % 2 ^ 64
  pub lengths : (i : ℕ) → changes + i < 32 → slice_index new.lengths (changes + i) ≡ slice_index old.lengths i

-- What an event of the code carries was checked by its reader, as each configuration and each data frame was.
abbrev pub WasChecked : PrivateEvent → Type 0
WasChecked (private.Grant key config) = IfSome config (λ c. IsPart (arc_value c.now))
WasChecked (private.Announce config places) = IsSource config.now
WasChecked (private.Measure frame places) = IsMeasurement (arc_value frame.now)
WasChecked _ = Unit {0}

-- What is known of the layouts of a stream, in each state that can be reached.
pub record LengthsAreKnown : Type 0 where
  -- the first length is what a data frame of the stream has by the CFG-1 list
  pub head : (p : Model) (number : ℕ) (s : StreamOf (StreamHistory Piece)) → IsReached p → stream_at p.streams number ≡ Some s
      → slice_index s.layouts.lengths 0 ≡ frame_len p.listed s.definition.members
  -- Each data frame that the stream makes at the next event has that length. Where the event changes the layout, its frames are still of
  -- the layout before it.
  pub frames : (p : Model) (number : ℕ) (s : StreamOf (StreamHistory Piece)) (e : SubscriberEvent) (r : ReplyValue) → IsReached p → stream_at p.streams number ≡ Some s
      → IsRead p.listed e → AllByRecursion (λ frame. length frame ≡ slice_index s.layouts.lengths 0) (made_at number p e r)
  -- Behind more events the lengths are still known, so that the layout's number when a frame was made gives the frame's length.
  pub known : (p : Model) (run : Run) (number : ℕ) (s t : StreamOf (StreamHistory Piece)) → IsReached p → IsLegal p run → AreRead p run
      → stream_at p.streams number ≡ Some s → StaysDefined number p run → stream_at (after p run).streams number ≡ Some t
      → AreKnownSince (length run) s.layouts t.layouts
  -- Each event that a subscriber takes was read, in whatever state the subscriber shows.
  pub taken : (v : SubscriberValue) (p : Model) (e : PrivateEvent) → ShowsPrivate v p → Accepts v e → WasChecked e → IsRead p.listed (subscriber_event e)
