-- What follows for whole runs of private events.
use Rattle.std.specs.Prelude.{◌≡◌, ◌<◌, ◌&&◌, ℕ, zero, suc, ◌-◌, nat_le, Bool, false, if◌then◌else◌, List, [], ◌∷◌, ◌++◌, length, Option, Some, None, option_map, Err}
use Rattle.pg_wire.specs.declared.refusal.Refusal.{Refusal}
use Rattle.pg_wire.specs.declared.refusal.Refusal.TheVariants.{TimeEnd}
use Rattle.pg_entitle.specs.Grants.{has_key}
use Rattle.pg_ring.specs.Fates.{Call, Push, Lose, Reply, Drain, HangUp, history_of, fates, one_if}
use Rattle.pg_align.specs.Histories.{StreamHistory}
use Rattle.pg_data.specs.Pieces.{Piece}
use Rattle.pg_data.specs.Measurements.{Measurement, IsMeasurement}
use Rattle.pg_stream.specs.Slots.{slot_at}
use Rattle.pg_session.specs.Streams.{Turn, base_of}
use Rattle.pg_session.specs.Events.{SubscriberEvent, Sample, samples_at, grant, revoke, announce, measure, define, remove, tick, connect, hangup, command, drain}
use Rattle.pg_session.specs.Private.{ReplyValue, done, refused, handed, refusal, answer, May, next, turns_of, frames_of, asks_reply, reply_frame, stream_at}
use Rattle.pg_session.specs.ByAll.{by_arrivals, by_numbers}
use Rattle.pg_session.specs.Shown.{Model, begin}
use Rattle.pg_session.specs.Ready.{ArePlaces}

-- private events, each with the reply to it
abbrev pub Run : Type 0
Run = List (SubscriberEvent × ReplyValue)

-- the state after a run
abbrev pub after : Model → Run → Model
after p [] = p
after p (x ∷ xs) = after (next by_arrivals by_numbers p x.0 x.1) xs

-- the reply where no memory is refused: the first refusal that holds, or the answer with all frames kept
abbrev pub unless_refused : Option Refusal → ReplyValue → ReplyValue
unless_refused None told = told
unless_refused (Some r) told = refused r

abbrev pub full_told : Model → SubscriberEvent → ReplyValue
full_told p e =
    unless_refused (refusal by_arrivals by_numbers p e)
    (answer by_arrivals by_numbers p e (length (frames_of by_arrivals by_numbers p e)))

-- private events with the replies to them where no memory is refused
abbrev pub full_run : Model → List SubscriberEvent → Run
full_run p [] = []
full_run p (e ∷ es) = (e, full_told p e) ∷ full_run (next by_arrivals by_numbers p e (full_told p e)) es

-- what the replies of a run hand out: the bytes, how many frames they begin, and the gaps before these
abbrev pub handed_by : ReplyValue → List (List ℕ × ℕ × ℕ)
handed_by (done made kept) = []
handed_by (refused r) = []
handed_by (handed bytes begun gap) = (bytes, begun, gap) ∷ []

abbrev pub handed_in : Run → List (List ℕ × ℕ × ℕ)
handed_in [] = []
handed_in (x ∷ xs) = handed_by x.1 ++ handed_in xs

-- what the frames made are to the queue: the first `kept` are pushed, the others lost
abbrev pub frame_calls : ℕ → List (List ℕ) → List Call
frame_calls kept [] = []
frame_calls zero (frame ∷ frames) = Lose ∷ frame_calls zero frames
frame_calls (suc kept) (frame ∷ frames) = Push frame ∷ frame_calls kept frames

abbrev pub turn_calls : ℕ → List (Turn (StreamHistory Piece)) → List Call
turn_calls kept [] = []
turn_calls kept (turn ∷ turns) = frame_calls kept turn.frames ++ turn_calls (kept - length turn.frames) turns

abbrev pub reply_calls : Option (List ℕ) → List Call
reply_calls None = []
reply_calls (Some frame) = Reply frame ∷ []

-- what an event that is not refused is to the queue
abbrev pub calls_done : Model → SubscriberEvent → ℕ → List Call
calls_done p (grant key config) kept =
    if has_key p.grants key then [] else turn_calls kept (turns_of by_arrivals by_numbers p (grant key config))
calls_done p (revoke key) kept = turn_calls kept (turns_of by_arrivals by_numbers p (revoke key))
calls_done p (announce list) kept = turn_calls kept (turns_of by_arrivals by_numbers p (announce list))
calls_done p (measure soc quality frac samples) kept = turn_calls kept (turns_of by_arrivals by_numbers p (measure soc quality frac samples))
calls_done p (tick soc) kept = turn_calls kept (turns_of by_arrivals by_numbers p (tick soc))
calls_done p (define definition) kept = []
calls_done p (remove number) kept = []
calls_done p connect kept = []
calls_done p hangup kept = HangUp ∷ []
calls_done p (command number word) kept =
    reply_calls (if asks_reply word then option_map (reply_frame by_arrivals by_numbers p word) (stream_at p.streams number) else None)
calls_done p (drain n) kept = Drain n ∷ []

abbrev pub calls_of : Model → SubscriberEvent → ReplyValue → List Call
calls_of p e (done made kept) = calls_done p e kept
calls_of p e (refused r) = []
calls_of p e (handed bytes begun gap) = calls_done p e 0

-- what a run is to the queue
abbrev pub calls_in : Model → Run → List Call
calls_in p [] = []
calls_in p (x ∷ xs) = calls_of p x.0 x.1 ++ calls_in (next by_arrivals by_numbers p x.0 x.1) xs

-- A longer run goes on where the shorter one ends, and hands out the rest after what that handed.
pub record RunsGoOn : Type 0 where
  -- where no memory is refused the replies are a function of the events, each by the state that those before it leave
  pub replies : (p : Model) (es fs : List SubscriberEvent) → full_run p (es ++ fs) ≡ full_run p es ++ full_run (after p (full_run p es)) fs
  pub may : (p : Model) (e : SubscriberEvent) → May by_arrivals by_numbers p e false (full_told p e)
  pub state : (p : Model) (xs ys : Run) → after p (xs ++ ys) ≡ after (after p xs) ys
  pub handed : (xs ys : Run) → handed_in (xs ++ ys) ≡ handed_in xs ++ handed_in ys

-- After any run the queue is what its calls make of a new one. So each number that was given has one fate: its frame was
-- begun, or is queued; or it was, or is, in the gap of such a frame; or it is pending; or a hang-up found it waiting.
pub record NumbersAreKept : Type 0 where
  pub queue : (size limit : ℕ) (last : Option ℕ) (xs : Run)
      → (after (begin size limit last) xs).output.queue ≡ (history_of size limit (calls_in (begin size limit last) xs)).now
  pub fate : (size limit : ℕ) (last : Option ℕ) (xs : Run) (k : ℕ) → 0 < size
      → fates (history_of size limit (calls_in (begin size limit last) xs)) k
      ≡ one_if (nat_le 1 k && nat_le k (length (after (begin size limit last) xs).output.queue.made))

-- A measurement that completes no slot makes no frame; it is done, whatever memory there is.
pub record NeedsNoMemory : Type 0 where
  pub reply : (p : Model) (soc quality frac : ℕ) (samples : List Sample) (lost : Bool) (r : ReplyValue)
      → frames_of by_arrivals by_numbers p (measure soc quality frac samples) ≡ []
      → May by_arrivals by_numbers p (measure soc quality frac samples) lost r → r ≡ done 0 0

-- A data frame that was read has a numerator below its resolution, so that no time of it is refused a slot but for TimeEnd.
pub record OnlyTimeEnds : Type 0 where
  pub below : (m : Measurement) (places : List ℕ) → IsMeasurement m → ArePlaces (length m.config.parts) places
      → m.frac < base_of (samples_at m places)
  pub refusal : (m : Measurement) (places : List ℕ) (rate : ℕ) (r : Refusal) → IsMeasurement m → ArePlaces (length m.config.parts) places
      → slot_at rate (base_of (samples_at m places)) m.soc m.frac ≡ Err r → r ≡ TimeEnd
