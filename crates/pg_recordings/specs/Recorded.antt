-- What is recorded of an event, and that the input which its record is spells the event.
use Rattle.std.specs.Prelude.{◌≡◌, ℕ, ◌+◌, ◌*◌, ◌^◌, ◌<◌, List, [], ◌++◌, Some}
use Rattle.std.specs.Int.{w16, w32, to_be_bytes}
use Rattle.pg_record.specs.declared.record.RecordKind.TheVariants.{Measurement, Configuration, Command, Tick, Connect, Hangup, Drain}
use Rattle.pg_config.specs.Parts.{Source}
use Rattle.pg_data.specs.Measurements as measured_data
use Rattle.pg_data.specs.Measurements.{IsMeasurement}
use Rattle.pg_session.specs.Events as session
use Rattle.pg_gateway.specs.GatewayEvents.{GatewayEvent, asks, announce, measure, tick}
use Rattle.pg_serve.specs.Inputs.{InputValue}
use Rattle.pg_serve.specs.WorldStates.{WorldState}
use Rattle.pg_serve.specs.Framed.{Awaits}
use Rattle.pg_serve.specs.Replaying.{HasLink, HasSession, SpellsSource, IsSpelled}
use Rattle.pg_recordings.specs.Inputs.{input_in}

-- of a measurement: SOC, FRACSEC and the blocks (C37.118.2, 6.3)
abbrev pub measured_body : measured_data.Measurement → List ℕ
measured_body m = to_be_bytes w32 m.soc ++ to_be_bytes w32 (m.quality * 2 ^ 24 + m.frac) ++ m.body

-- of a command: IDCODE and CMD (C37.118.2, 6.6)
abbrev pub command_body : ℕ → ℕ → List ℕ
command_body stream word = to_be_bytes w16 stream ++ to_be_bytes w16 word

-- at this state the record's input spells the event
abbrev pub IsInputOf : WorldState → GatewayEvent → InputValue → Type 0
IsInputOf m e f = IsSpelled m f e

-- The record of each of these events is an input that spells it: of a measurement where the link of its source awaits a frame of its
-- configuration, of a configuration and a command where the source's link and the subscriber's session await a frame.
pub record RecordsAreSpelled : Type 0 where
  pub measured : (past : WorldState) (m : measured_data.Measurement) → IsMeasurement m → 0 < m.source → m.source < 65535 → Awaits past m.source m.config
      → (f : InputValue) × (input_in Measurement m.source (measured_body m) ≡ Some f) × IsInputOf past (measure m) f
  pub announced : (past : WorldState) (config : Source) (frame : List ℕ) → SpellsSource frame config → 0 < config.source → config.source < 65535
      → HasLink past config.source
      → (f : InputValue) × (input_in Configuration config.source frame ≡ Some f) × IsInputOf past (announce config) f
  pub commanded : (past : WorldState) (u stream word : ℕ) → 0 < u → stream < 2 ^ 16 → word < 2 ^ 16 → HasSession past u
      → (f : InputValue) × (input_in Command u (command_body stream word) ≡ Some f) × IsInputOf past (asks u (session.command stream word)) f
  pub ticked : (past : WorldState) (soc : ℕ) → soc < 2 ^ 32
      → (f : InputValue) × (input_in Tick 0 (to_be_bytes w32 soc) ≡ Some f) × IsInputOf past (tick soc) f
  pub connected : (past : WorldState) (u : ℕ) → 0 < u
      → (f : InputValue) × (input_in Connect u [] ≡ Some f) × IsInputOf past (asks u session.connect) f
  pub ended : (past : WorldState) (u : ℕ) → 0 < u
      → (f : InputValue) × (input_in Hangup u [] ≡ Some f) × IsInputOf past (asks u session.hangup) f
  pub drained : (past : WorldState) (u room : ℕ) → 0 < u → room < 65536
      → (f : InputValue) × (input_in Drain u (to_be_bytes w32 room) ≡ Some f) × IsInputOf past (asks u (session.drain room)) f
