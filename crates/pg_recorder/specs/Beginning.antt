-- What is recorded of an event before it is posted.
use Rattle.std.specs.Prelude.{◌≡◌, ◌⊎◌, ℕ, ◌≤◌, ◌*◌, ◌-◌, ◌%◌, ◌^◌, min, bit_and, bit_or, Bool, true, false, List, [], length, Option, Some, None, IsSomeAnd, nat_eq, if◌then◌else◌}
use Rattle.std.specs.Arc.{arc_value}
use Rattle.pg_wire.specs.Number.{number_of}
use Rattle.pg_wire.specs.declared.refusal.Refusal.{Refusal}
use Rattle.pg_config.specs.Parts.{Source}
use Rattle.pg_config.specs.Sourced.{IsOfRate, source_frame}
use Rattle.pg_data.specs.Measurements.{Measurement}
use Rattle.pg_gateway.specs.declared.event.Event.{Event}
use Rattle.pg_gateway.specs.declared.event.Event.TheVariants as event
use Rattle.pg_record.specs.declared.record.RecordKind.{RecordKind}
use Rattle.pg_record.specs.declared.record.RecordKind.TheVariants as kind
use Rattle.pg_record.specs.declared.tape.Front.{Front}
use Rattle.pg_record.specs.declared.tape.Front.TheVariants.{Nothing, Four, Eight}
use Rattle.pg_record.specs.Taping.{Taped, begun}
use Rattle.pg_recorder.specs.Answering.{Taping}

-- ---- the fronts of bodies

-- a word of so many bits that holds two numbers: `first` above the lowest `low` bits, and `second` in these
abbrev pub word_of : (bits low first second : ℕ) → ℕ
word_of bits low first second = bit_or ((first * 2 ^ low) % 2 ^ bits) second

-- SOC, and FRACSEC: the time quality and the lowest 24 bits of the numerator (C37.118.2, 6.2.2)
abbrev pub time_front : ℕ → ℕ → ℕ → Front
time_front soc quality frac = Eight (word_of 64 32 soc (word_of 32 24 quality (bit_and frac 0x00FFFFFF)))

-- of frames of a source that were ignored: the source, the number of the reason, and how many they are
abbrev pub ignored_of : ℕ → Refusal → ℕ → ℕ
ignored_of source reason count = word_of 64 32 (word_of 64 16 source (number_of reason)) (min count (2 ^ 32 - 1))

abbrev pub question_front : Option ℕ → Front
question_front (Some ignored) = Eight ignored
question_front None = Nothing

-- ---- the record of an event

-- A record begins with this kind and number, and this front and rest of a body, where there is room for it.
pub record Begun (t : Taped) (kind : RecordKind) (number : ℕ) (front : Front) (rest : List ℕ) (u : Taped) : Type 0 where
  pub state : u ≡ record (begun t kind number front rest) { room = u.room }
  pub room : t.room ≤ u.room

-- What no line of a script says, or there is no memory to say.
abbrev pub BegunUnspelled : Taped → Taped → Type 0
BegunUnspelled t u = Begun t kind.Unspelled 0 Nothing [] u

-- its time and its blocks
abbrev pub BegunData : Taped → Measurement → Taped → Type 0
BegunData t m u = Begun t kind.Measurement m.source (time_front m.soc m.quality m.frac) m.body u

-- the frame CFG-2 by which the source's configuration is read again
pub record BegunFrame (t : Taped) (s : Source) (u : Taped) : Type 0 where
  pub base : ℕ
  pub rate : ℕ
  pub is_of : IsOfRate base rate s
  pub begins : Begun t kind.Configuration s.source Nothing (source_frame base rate s) u

-- the line of an edit
pub record BegunLine (t : Taped) (u : Taped) : Type 0 where
  pub line : List ℕ
  pub begins : Begun t kind.Edit 0 Nothing line u

abbrev pub BegunEdit : Taped → Taped → Type 0
BegunEdit t u = BegunLine t u ⊎ BegunUnspelled t u

-- The record of this event begins; that of a question has what was noted of ignored frames.
abbrev pub BegunOf : Option ℕ → Taped → Event → Taped → Type 0
BegunOf _ t (event.Measure frame) u = BegunData t (arc_value frame) u
BegunOf _ t (event.Announce config) u = BegunFrame t (arc_value config) u ⊎ BegunUnspelled t u
BegunOf _ t (event.Drain sub buffer) u = Begun t kind.Drain sub (Four (min (length buffer.items) (2 ^ 32 - 1))) [] u
BegunOf _ t (event.Command sub asked) u = Begun t kind.Command sub (Four (word_of 32 16 asked.stream asked.word)) [] u
BegunOf _ t (event.Connect sub) u = Begun t kind.Connect sub Nothing [] u
BegunOf _ t (event.Hangup sub) u = Begun t kind.Hangup sub Nothing [] u
BegunOf _ t (event.Tick soc) u = Begun t kind.Tick 0 (Four soc) [] u
BegunOf ignored t (event.Stats _) u = Begun t kind.Question 0 (question_front ignored) [] u
BegunOf ignored t (event.PmuStats _) u = Begun t kind.Question 0 (question_front ignored) [] u
BegunOf ignored t (event.Audit _ _) u = Begun t kind.Question 0 (question_front ignored) [] u
BegunOf ignored t (event.Standing _ _) u = Begun t kind.Question 0 (question_front ignored) [] u
BegunOf ignored t (event.WhoWaits _) u = Begun t kind.Question 0 (question_front ignored) [] u
BegunOf _ t (event.AddPmu _) u = BegunEdit t u
BegunOf _ t (event.DropPmu _) u = BegunEdit t u
BegunOf _ t (event.AddSub _ _ _) u = BegunEdit t u
BegunOf _ t (event.DropSub _) u = BegunEdit t u
BegunOf _ t (event.Grant _ _) u = BegunEdit t u
BegunOf _ t (event.Revoke _ _) u = BegunEdit t u
BegunOf _ t (event.Define _ _) u = BegunEdit t u
BegunOf _ t (event.Remove _ _) u = BegunEdit t u

-- whether an event asks and changes nothing
abbrev pub is_question : Event → Bool
is_question (event.Stats _) = true
is_question (event.PmuStats _) = true
is_question (event.Audit _ _) = true
is_question (event.Standing _ _) = true
is_question (event.WhoWaits _) = true
is_question _ = false

-- what is noted of ignored frames once the record of this event has begun
abbrev pub noted_after : Bool → Option ℕ → Option ℕ
noted_after true _ = None
noted_after false ignored = ignored

-- when the first call of a tape was begun, once one more begins when the clock stands so
abbrev pub start_after : Taping → ℕ → ℕ
start_after t clock = if nat_eq (length t.tape.calls) 0 then clock else t.start

-- Where the thread records, the record of this event begins. (The clock may be read.)
abbrev pub Begins : Option Taping → Event → Option Taping → Type 0
Begins (Some t) asked w = IsSomeAnd w (λ u. BegunOf t.ignored t.tape asked u.tape × (u.start ≡ start_after t u.clock) × (u.ignored ≡ noted_after (is_question asked) t.ignored))
Begins None _ w = w ≡ None

-- What is noted of ignored frames is kept for the record of the next question, and nothing else changes; or it is not kept, and nothing changes.
abbrev pub NotesIgnored : Option Taping → ℕ → Bool → Option Taping → Type 0
NotesIgnored (Some t) ignored true w = w ≡ Some (record t { ignored = Some ignored })
NotesIgnored None _ true _ = ⊥
NotesIgnored t _ false w = w ≡ t
