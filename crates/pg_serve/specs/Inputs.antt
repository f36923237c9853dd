-- What a world is handed, and what it answers, wherever they lie in memory.
use Rattle.std.specs.Prelude.{ℕ, List, map}
use Rattle.pg_wire.specs.declared.refusal.Refusal.{Refusal}
use Rattle.pg_session.specs.Events as session
use Rattle.pg_gateway.specs.GatewayEvents.{GatewayEvent, asks, tick, Answer, told}
use Rattle.pg_shared.specs.Edits.{edited}
use Rattle.pg_serve.specs.declared.input.Input.{Input}
use Rattle.pg_serve.specs.declared.input.Input.TheVariants as input
use Rattle.pg_serve.specs.declared.input.Note.{Note}
use Rattle.pg_serve.specs.declared.input.Note.TheVariants as note
use Rattle.pg_serve.specs.declared.input.Output.{Output}

pub data InputValue : Type 0 where
  -- a source's connection is up
  link_up : ℕ → InputValue
  -- bytes of a source came, and bytes of a subscriber
  pmu_bytes : ℕ → List ℕ → InputValue
  sub_bytes : ℕ → List ℕ → InputValue
  -- the event of the input's name
  names : GatewayEvent → InputValue

-- what an input says
abbrev pub input_value : Input → InputValue
input_value (input.LinkUp source) = link_up source
input_value (input.PmuBytes source bytes) = pmu_bytes source bytes.items
input_value (input.SubBytes u bytes) = sub_bytes u bytes.items
input_value (input.Connect u) = names (asks u session.connect)
input_value (input.Hangup u) = names (asks u session.hangup)
input_value (input.Drain u size) = names (asks u (session.drain size))
input_value (input.Tick soc) = names (tick soc)
input_value (input.Edit e) = names (edited e)

abbrev pub input_values : List Input → List InputValue
input_values inputs = map input_value inputs

pub data Noted : Type 0 where
  replied : Answer → Noted
  ignored : Refusal → Noted
  closed : Refusal → Noted

-- what a note says
abbrev pub noted : Note → Noted
noted (note.Replied reply) = replied (told reply)
noted (note.Ignored r) = ignored r
noted (note.Closed r) = closed r

-- what is answered to an input: the notes, and the bytes to the source
pub record Outcome : Type 0 where
  pub notes : List Noted
  pub to_pmu : List ℕ

abbrev pub all_noted : List Note → List Noted
all_noted notes = map noted notes

abbrev pub outcome : Output → Outcome
outcome o = record { notes = all_noted o.notes.items; to_pmu = o.to_pmu.items }

abbrev pub outcomes : List Output → List Outcome
outcomes outputs = map outcome outputs
