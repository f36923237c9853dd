-- The spelling of configuration frames, CFG-1 and CFG-2 (C37.118.2, 6.4).
use Rattle.std.specs.Prelude.{◌≡◌, ◌⊎◌, ℕ, ℤ, ◌+◌, ◌*◌, ◌^◌, ◌<◌, List, ◌++◌, length, map, All}
use Rattle.std.specs.Int.{w16, w32, to_be_bytes, cast_signed}
use Rattle.pg_wire.specs.declared.kind.Kind.TheVariants.{CfgOne, CfgTwo}
use Rattle.pg_wire.specs.Kinds.{kind_number}
use Rattle.pg_wire.specs.Head.{Heading, HeadFits, frame_of}
use Rattle.pg_wire.specs.Stream.{joined}
use Rattle.pg_config.specs.declared.source.Announced.{Announced}
use Rattle.pg_config.specs.Parts.{Part}

-- a PMU's configuration block by its fields
pub record Block : Type 0 where
  -- STN
  pub station : List ℕ
  -- IDCODE
  pub id : ℕ
  -- FORMAT
  pub format : ℕ
  -- PHNMR, ANNMR, DGNMR
  pub phasors : ℕ
  pub analogs : ℕ
  pub digitals : ℕ
  -- CHNAM, one after another
  pub names : List ℕ
  -- PHUNIT, ANUNIT and DIGUNIT, one after another
  pub units : List ℕ
  -- FNOM
  pub nominal : ℕ
  -- CFGCNT
  pub changes : ℕ

-- 16 bytes for each name, a digital word has 16 names; 4 bytes for each unit
pub record BlockFits (b : Block) : Type 0 where
  pub station : length b.station ≡ 16
  pub id : b.id < 2 ^ 16
  pub format : b.format < 2 ^ 16
  pub phasors : b.phasors < 2 ^ 16
  pub analogs : b.analogs < 2 ^ 16
  pub digitals : b.digitals < 2 ^ 16
  pub names : length b.names ≡ 16 * (b.phasors + b.analogs + 16 * b.digitals)
  pub units : length b.units ≡ 4 * (b.phasors + b.analogs + b.digitals)
  pub nominal : b.nominal < 2 ^ 16
  pub changes : b.changes < 2 ^ 16

abbrev pub block_bytes : Block → List ℕ
block_bytes b =
    b.station ++ to_be_bytes w16 b.id ++ to_be_bytes w16 b.format
    ++ to_be_bytes w16 b.phasors ++ to_be_bytes w16 b.analogs ++ to_be_bytes w16 b.digitals
    ++ b.names ++ b.units ++ to_be_bytes w16 b.nominal ++ to_be_bytes w16 b.changes

-- what a PMU's block says, in a frame of this resolution and rate
abbrev pub part_of : ℕ → ℤ → Block → Part
part_of base rate b = record {
  base = base;
  rate = rate;
  phasors = b.phasors;
  analogs = b.analogs;
  digitals = b.digitals;
  block = block_bytes b;
}

-- the body of a configuration frame: TIME_BASE, NUM_PMU, the PMUs' blocks, DATA_RATE
abbrev pub body_with : ℕ → List (List ℕ) → ℕ → List ℕ
body_with time_base blocks rate =
    to_be_bytes w32 time_base ++ to_be_bytes w16 (length blocks) ++ joined blocks ++ to_be_bytes w16 rate

-- The bytes are a frame that announces this. Reading forgets version, SOC, FRACSEC and TIME_BASE's flags.
pub record SpellsConfig (frame : List ℕ) (a : Announced) : Type 0 where
  pub head : Heading
  pub fits : HeadFits head
  pub config : (a.kind ≡ CfgOne) ⊎ (a.kind ≡ CfgTwo)
  pub kind : head.kind ≡ kind_number a.kind
  pub source : head.id ≡ a.config.source
  pub flags : ℕ
  pub flags_fit : flags < 2 ^ 8
  pub base : ℕ
  pub base_fits : base < 2 ^ 24
  -- DATA_RATE as its two bytes say it
  pub rate : ℕ
  pub rate_fits : rate < 2 ^ 16
  pub pmus : List Block
  pub each : All BlockFits pmus
  pub parts : a.config.parts ≡ map (part_of base (cast_signed w16 rate)) pmus
  -- FRAMESIZE has two bytes
  pub sized : length frame < 2 ^ 16
  pub whole : frame ≡ frame_of head (body_with (flags * 2 ^ 24 + base) (map block_bytes pmus) rate)

-- The bytes are a header frame with this text, which is ASCII (C37.118.2, 6.5).
pub record SpellsHeader (frame text : List ℕ) : Type 0 where
  pub head : Heading
  pub fits : HeadFits head
  pub kind : head.kind ≡ 1
  pub ascii : All (λ b. b < 128) text
  pub sized : length frame < 2 ^ 16
  pub whole : frame ≡ frame_of head text
