-- The measures of a source, and of the PMUs that it announced (C37.118.2, 6.3 and 6.4).
use Rattle.std.specs.Prelude.{ℕ, ◌+◌, ◌-◌, ◌*◌, nat_lt, nat_le, ◌==◌, ℤ, pos, ◌&&◌, List, [], ◌∷◌, length, take, Option, Some, None, if◌then◌else◌}
use Rattle.std.specs.Int.{w16, cast_signed}
use Rattle.pg_wire.specs.Head.{two_at}
use Rattle.pg_config.specs.Parts.{Part, Source, block_id, data_len}
use Rattle.pg_data.specs.Measurements.{Measurement}
use Rattle.pg_quality.specs.Measures.{blocks_at, no_blocks, with_block}
use Rattle.pg_quality.specs.declared.frame_time.FrameTime.{FrameTime}
use Rattle.pg_quality.specs.declared.block_quality.Block.{Block}
use Rattle.pg_quality.specs.declared.block_quality.BlockQuality.{BlockQuality}
use Rattle.pg_quality.specs.declared.pmu_quality.PmuQuality.{PmuQuality}
use Rattle.pg_quality.specs.declared.pmu_quality.PmuSummary.{PmuSummary}

-- ---- a PMU

unfoldable pub pmu_of : Part → ℕ → BlockQuality → PmuQuality
pmu_of part start blocks = record {
  id = block_id part.block;
  station = take 16 part.block;
  fnom = two_at part.block (length part.block - 4);
  start = start;
  phasors = part.phasors;
  blocks = blocks;
}

-- the head of a block that begins here, and has FREQ there, where it is whole
abbrev pub block_at : List ℕ → ℕ → ℕ → Option Block
block_at body start freq_at =
    if nat_le (freq_at + 4) (length body) then
    Some (record { stat = two_at body start; freq = cast_signed w16 (two_at body freq_at); dfreq = cast_signed w16 (two_at body (freq_at + 2)) })
    else None

-- FREQ stands behind STAT and the phasors
abbrev pub block_in : List ℕ → ℕ → ℕ → Option Block
block_in body start phasors = block_at body start (start + 2 + 4 * phasors)

abbrev pub pmu_with : PmuQuality → Option Block → PmuQuality
pmu_with p None = p
pmu_with p (Some block) = record p { blocks = with_block p.blocks block }

-- a data frame with these blocks came
unfoldable pub pmu_noted : List ℕ → PmuQuality → PmuQuality
pmu_noted body p = pmu_with p (block_in body p.start p.phasors)

abbrev pub summary_of : PmuQuality → PmuSummary
summary_of p = record {
  id = p.id;
  station = p.station;
  fnom = p.fnom;
  stat = p.blocks.stat;
  freq = p.blocks.frequency.freq;
  dfreq = p.blocks.frequency.dfreq;
}

-- the machine's clock has come to this second
unfoldable pub pmu_at : ℕ → PmuQuality → PmuQuality
pmu_at second p = record p { blocks = blocks_at p.blocks second }

-- ---- a source's

-- the measures of the blocks of the PMU of this IDCODE, as far as it is known
abbrev pub blocks_known : ℕ → List PmuQuality → BlockQuality
blocks_known id [] = no_blocks
blocks_known id (p ∷ ps) = if p.id == id then p.blocks else blocks_known id ps

-- the PMUs with these configurations, whose blocks begin here: each that was known keeps its measures
abbrev pub pmus_from : ℕ → List PmuQuality → List Part → List PmuQuality
pmus_from start known [] = []
pmus_from start known (p ∷ ps) = pmu_of p start (blocks_known (block_id p.block) known) ∷ pmus_from (start + data_len p) known ps

-- DATA_RATE, which all PMUs of a source have
abbrev pub rate_in : List Part → ℤ
rate_in [] = pos 0
rate_in (p ∷ ps) = p.rate

abbrev pub rate_of : Source → ℤ
rate_of config = rate_in config.parts

-- the time of a data frame
abbrev pub time_of : Measurement → FrameTime
time_of m = record { soc = m.soc; frac = m.frac; quality = m.quality }
