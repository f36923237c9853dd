-- The one spelling of output frames: version 2, quality 15 (an unlocked clock) and fraction 0.
use Rattle.std.specs.Prelude.{◌≡◌, ◌⊎◌, ℕ, ◌+◌, ◌-◌, ◌<◌, ◌≤◌, ◌^◌, pos, List, ◌++◌, length, take, map, All, Ok, slice_index, false}
use Rattle.std.specs.Int.{w16, w32, to_be_bytes}
use Rattle.pg_wire.specs.declared.kind.Kind.{Kind}
use Rattle.pg_wire.specs.declared.kind.Kind.TheVariants.{CfgOne, CfgTwo}
use Rattle.pg_wire.specs.Kinds.{kind_number}
use Rattle.pg_wire.specs.Head.{Heading, IsFrame, frame_of}
use Rattle.pg_wire.specs.Heads.{start_of}
use Rattle.pg_config.specs.declared.source.Announced.{Announced}
use Rattle.pg_config.specs.Parts.{Part, IsPart, block_id, is_reserved, repeats}
use Rattle.pg_config.specs.Reading.{config_of}
use Rattle.pg_config.specs.Spelling.{body_with}

abbrev pub reply_heading : Kind → ℕ → ℕ → Heading
reply_heading kind id soc = record { kind = kind_number kind; version = 2; id = id; soc = soc; quality = 15; frac = 0 }

-- a PMU's block without CFGCNT, its last two bytes
abbrev pub uncounted : Part → List ℕ
uncounted p = take (length p.block - 2) p.block

-- a PMU's block, with this CFGCNT in place of its own
abbrev pub block_with_count : ℕ → Part → List ℕ
block_with_count count p = uncounted p ++ to_be_bytes w16 count

-- the body of an output configuration: TIME_BASE with flags 0, NUM_PMU, the blocks, DATA_RATE
abbrev pub config_body : ℕ → ℕ → ℕ → List Part → List ℕ
config_body base rate count parts = body_with base (map (block_with_count count) parts) rate

-- an output configuration: kind, stream, SOC, resolution, rate, CFGCNT, PMUs
abbrev pub config_frame : Kind → ℕ → ℕ → ℕ → ℕ → ℕ → List Part → List ℕ
config_frame kind id soc base rate count parts = frame_of (reply_heading kind id soc) (config_body base rate count parts)

-- how such a frame starts, for that many blocks of that many bytes: its head, TIME_BASE with flags 0 and NUM_PMU
abbrev pub config_start : Kind → ℕ → ℕ → ℕ → ℕ → ℕ → List ℕ
config_start kind id soc base blocks blocks_len =
    start_of (reply_heading kind id soc) (24 + blocks_len) ++ to_be_bytes w32 base ++ to_be_bytes w16 blocks

-- a PMU's configuration as an output frame carries it
abbrev pub written_part : ℕ → ℕ → ℕ → Part → Part
written_part base rate count p = record p { base = base; rate = pos rate; block = block_with_count count p }

-- the same configuration but for CFGCNT
abbrev pub part_with_count : ℕ → Part → Part
part_with_count count p = record p { block = block_with_count count p }

abbrev pub announced_with : Kind → ℕ → List Part → Announced
announced_with kind source parts = record { kind = kind; config = record { source = source; parts = parts } }

-- Each number fits its bytes, and so do the PMUs.
pub record CanWrite (kind : Kind) (id soc base rate count : ℕ) (parts : List Part) : Type 0 where
  pub config : (kind ≡ CfgOne) ⊎ (kind ≡ CfgTwo)
  pub id_fits : id < 2 ^ 16
  pub soc_fits : soc < 2 ^ 32
  pub base_fits : base < 2 ^ 24
  -- DATA_RATE is signed
  pub rate_fits : rate < 2 ^ 15
  pub count_fits : count < 2 ^ 16
  pub few : length parts ≤ 32
  pub each : All IsPart parts
  pub bytes : All (λ p. (i : ℕ) → slice_index p.block i < 256) parts

-- What is written is a frame, and is read as the same configuration but for CFGCNT.
pub record ReadsBack (kind : Kind) (id soc base rate count : ℕ) (parts : List Part) : Type 0 where
  pub frame : IsFrame (config_frame kind id soc base rate count parts)
  pub read : config_of (config_frame kind id soc base rate count parts) ≡ Ok (announced_with kind id (map (part_with_count count) parts))

-- A reader takes a configuration of these PMUs from this source: 1 to 16, each with an IDCODE of its own.
pub record IsReadable (id : ℕ) (parts : List Part) : Type 0 where
  pub some : 0 < length parts
  pub few : length parts ≤ 16
  pub source : is_reserved id ≡ false
  pub distinct : repeats (map (λ p. block_id p.block) parts) ≡ false

-- What is written is a frame, and is read as these PMUs' blocks with the new CFGCNT, at the stream's resolution and rate.
pub record ReadsAsWritten (kind : Kind) (id soc base rate count : ℕ) (parts : List Part) : Type 0 where
  pub frame : IsFrame (config_frame kind id soc base rate count parts)
  pub read : config_of (config_frame kind id soc base rate count parts) ≡ Ok (announced_with kind id (map (written_part base rate count) parts))
