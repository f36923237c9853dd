-- The stamps of a stream rise: the data frames that it makes in a run of private events, and what these carry.
use Rattle.std.specs.Prelude.{◌≡◌, ◌/◌, ◌<◌, ◌^◌, ◌==◌, ℕ, IsTrue, false, if◌then◌else◌, List, [], ◌∷◌, ◌++◌, AllPairs, Option, Some, MatchOption}
use Rattle.pg_wire.specs.Head.{head_of}
use Rattle.pg_data.specs.Pieces.{Piece}
use Rattle.pg_stream.specs.declared.definition.Definition.{Definition}
use Rattle.pg_stream.specs.Slots.{IsBefore}
use Rattle.pg_align.specs.Histories.{StreamHistory, is_above}
use Rattle.pg_outcfg.specs.Listing.{Listing}
use Rattle.pg_outcfg.specs.Frames.{data_frame_of}
use Rattle.pg_session.specs.Streams.{StreamOf, Turn}
use Rattle.pg_session.specs.Events.{SubscriberEvent}
use Rattle.pg_session.specs.Private.{ReplyValue, done, refused, handed, May, next, turns_of, stream_at}
use Rattle.pg_session.specs.ByAll.{by_arrivals, by_numbers}
use Rattle.pg_session.specs.Shown.{Model, begin}
use Rattle.pg_session.specs.Laws.{Run, after}

-- each reply of the run is one that may come where it comes
abbrev pub IsLegal : Model → Run → Type 0
IsLegal p [] = Unit {0}
IsLegal p (x ∷ xs) = May by_arrivals by_numbers p x.0 false x.1 × IsLegal (next by_arrivals by_numbers p x.0 x.1) xs

-- of these turns, the data frames that the stream of a number makes
abbrev pub made_of : ℕ → List (Turn (StreamHistory Piece)) → List (List ℕ)
made_of number [] = []
made_of number (turn ∷ turns) = if turn.stream.definition.stream == number then turn.frames ++ made_of number turns else made_of number turns

-- the data frames that it makes at an event that gets this reply: none where that is a refusal
abbrev pub made_at : ℕ → Model → SubscriberEvent → ReplyValue → List (List ℕ)
made_at number p e (done made kept) = made_of number (turns_of by_arrivals by_numbers p e)
made_at number p e (refused r) = []
made_at number p e (handed bytes begun gap) = made_of number (turns_of by_arrivals by_numbers p e)

-- the data frames that it makes in a run, in the order in which it makes them
abbrev pub made_in : ℕ → Model → Run → List (List ℕ)
made_in number p [] = []
made_in number p (x ∷ xs) = made_at number p x.0 x.1 ++ made_in number (next by_arrivals by_numbers p x.0 x.1) xs

-- the stream of a number is on
abbrev pub IsOn : ℕ → Model → Type 0
IsOn number p = MatchOption (stream_at p.streams number) ⊥ (λ s. IsTrue s.slots.is_on)

-- The stream is on before each of these events, so that all of them lie in one on-period: only the last of them may end it.
abbrev pub StaysOn : ℕ → Model → Run → Type 0
StaysOn number p [] = Unit {0}
StaysOn number p (x ∷ xs) = IsOn number p × StaysOn number (next by_arrivals by_numbers p x.0 x.1) xs

-- This is the stream's data frame of a slot, by some CFG-1 list and with what had come for the slot; the slot's second is one
-- that SOC can tell.
pub record IsFrameOf (d : Definition) (slot : ℕ) (frame : List ℕ) : Type 0 where
  pub listed : Listing
  pub parts : List (Option Piece)
  pub same : frame ≡ data_frame_of d slot listed parts
  pub told : slot / d.rate < 2 ^ 32

-- These are the stream's data frames of slots that rise strictly, all of them above `last`.
abbrev pub AreOfRisingSlots : Definition → Option ℕ → List (List ℕ) → Type 0
AreOfRisingSlots d last [] = Unit {0}
AreOfRisingSlots d last (frame ∷ frames) =
    (slot : ℕ) × IsTrue (is_above last slot) × IsFrameOf d slot frame × AreOfRisingSlots d (Some slot) frames

-- the stamp that a frame's bytes carry: SOC, and the numerator in FRACSEC
abbrev pub stamp_in : List ℕ → ℕ × ℕ
stamp_in frame = ((head_of frame).soc, (head_of frame).frac)

-- Within an on-period of a stream its stamps rise strictly: take any run of private events, with replies that may come, and behind
-- it events at which the stream is on. The data frames that it makes at those are frames of slots that rise strictly, above each
-- slot that had left before in the on-period; and of any two of them the earlier carries the earlier stamp.
pub record StampsRise : Type 0 where
  pub slots : (size limit : ℕ) (last : Option ℕ) (before run : Run) (number : ℕ) (s : StreamOf (StreamHistory Piece))
      → IsLegal (begin size limit last) (before ++ run) → stream_at (after (begin size limit last) before).streams number ≡ Some s
      → StaysOn number (after (begin size limit last) before) run
      → AreOfRisingSlots s.definition s.slots.last (made_in number (after (begin size limit last) before) run)
  pub stamps : (size limit : ℕ) (last : Option ℕ) (before run : Run) (number : ℕ)
      → IsLegal (begin size limit last) (before ++ run) → StaysOn number (after (begin size limit last) before) run
      → AllPairs (λ frame later. IsBefore (stamp_in frame) (stamp_in later)) (made_in number (after (begin size limit last) before) run)
  -- a stream that is off makes none, so that each data frame is made in an on-period
  pub off : (size limit : ℕ) (last : Option ℕ) (before : Run) (number : ℕ) (s : StreamOf (StreamHistory Piece)) (e : SubscriberEvent) (r : ReplyValue)
      → IsLegal (begin size limit last) before → stream_at (after (begin size limit last) before).streams number ≡ Some s
      → s.slots.is_on ≡ false → made_at number (after (begin size limit last) before) e r ≡ []
