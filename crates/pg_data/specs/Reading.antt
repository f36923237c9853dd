-- Reading of data frames, and what their bytes spell.
use Rattle.std.specs.Prelude.{◌≡◌, ◌⊎◌, ℕ, ◌+◌, ◌/◌, ◌<◌, ◌^◌, List, length, map, slice_index, Result, Ok, Err, IsOk, nat_lt, ◌==◌, not, if◌then◌else◌}
use Rattle.std.specs.Arc.{arc_value}
use Rattle.std.specs.declared.sync.Arc.{Arc}
use Rattle.pg_wire.specs.declared.refusal.Refusal.{Refusal}
use Rattle.pg_wire.specs.declared.refusal.Refusal.TheVariants.{NoMemory, WrongId, BadLength, BadFraction}
use Rattle.pg_wire.specs.Frame.{size_of}
use Rattle.pg_wire.specs.Head.{IsFrame, HeadFits, frame_of, body_of, two_at, three_at, four_at}
use Rattle.pg_wire.specs.Stream.{joined}
use Rattle.pg_config.specs.Parts.{Source, data_len, data_lens}
use Rattle.pg_data.specs.Measurements.{Measurement, resolution, data_head}

-- The bytes are a data frame of this value, by this configuration: one data block for each of its PMUs, in their
-- order and each of its PMU's length. The version is forgotten.
pub record SpellsData (bytes : List ℕ) (config : Source) (m : Measurement) : Type 0 where
  pub version : ℕ
  pub fits : HeadFits (data_head version m)
  pub by : m.config ≡ config
  pub source : m.source ≡ config.source
  pub fraction : m.frac < resolution config
  pub blocks : List (List ℕ)
  pub sizes : map length blocks ≡ map data_len config.parts
  pub body : m.body ≡ joined blocks
  pub octets : (i : ℕ) → slice_index m.body i < 2 ^ 8
  pub small : 16 + length m.body < 2 ^ 16
  pub whole : bytes ≡ frame_of (data_head version m) m.body

-- the value that a data frame's bytes have by a configuration
abbrev pub measurement_of : Source → List ℕ → Measurement
measurement_of config frame = record {
  source = two_at frame 4;
  soc = four_at frame 6;
  quality = slice_index frame 10;
  frac = three_at frame 11;
  config = config;
  body = body_of frame;
}

-- Reading of a data frame, with the first refusal that holds: the source, FRAMESIZE, the numerator.
abbrev pub data_of : Source → List ℕ → Result Measurement Refusal
data_of config frame =
    if not (two_at frame 4 == config.source) then Err WrongId else
    if not (size_of frame == 16 + data_lens config.parts) then Err BadLength else
    if not (nat_lt (three_at frame 11) (resolution config)) then Err BadFraction else
    Ok (measurement_of config frame)

-- What a function returned is what reading gives. Where it gives a value, memory may have run out.
abbrev pub ReadsAs : {X Z : Type 0} → Result (Arc X Z) Refusal → Result X Refusal → Type 0
ReadsAs (Ok v) read = read ≡ Ok (arc_value v)
ReadsAs (Err e) read = (read ≡ Err e) ⊎ ((e ≡ NoMemory) × IsOk read)

-- what looking for a refusal gives
abbrev pub Checks : Result (Unit {0}) Refusal → Result Measurement Refusal → Type 0
Checks (Ok _) read = IsOk read
Checks (Err e) read = read ≡ Err e

-- A data frame: type 0 in its second byte.
pub record IsDataFrame (bytes : List ℕ) : Type 0 where
  pub frame : IsFrame bytes
  pub kind : slice_index bytes 1 / 16 ≡ 0

-- the bytes that are written for a value, by version 2
abbrev pub spelling_of : Measurement → List ℕ
spelling_of m = frame_of (data_head 2 m) m.body

-- What is written for a value is a data frame that spells it, and it is read as that value.
pub record ReadsBack (m : Measurement) : Type 0 where
  pub frame : IsDataFrame (spelling_of m)
  pub spelled : SpellsData (spelling_of m) m.config m
  pub read : data_of m.config (spelling_of m) ≡ Ok m
