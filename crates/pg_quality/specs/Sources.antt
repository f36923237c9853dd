-- The measures of a source's data, and of the blocks of each PMU that it announced.
use Rattle.std.specs.Prelude.{ℕ, Bool, false, List, [], map, slice_get, slice_set, option_map, Option, Some, None}
use Rattle.pg_config.specs.Parts.{Source}
use Rattle.pg_data.specs.Measurements.{Measurement, resolution}
use Rattle.pg_quality.specs.Announcing.{pmu_at, pmu_noted, pmus_from, rate_of, time_of}
use Rattle.pg_quality.specs.Measures.{Frames, announced_to, at_connect, at_second, no_frames, with_frame}
use Rattle.pg_quality.specs.Tallies.{last_minute}
use Rattle.pg_quality.specs.Watching.{change_of, changes_of, is_short_after, looked}
use Rattle.pg_quality.specs.declared.pmu_quality.PmuQuality.{PmuQuality}
use Rattle.pg_quality.specs.declared.watch.PmuChanges.{PmuChanges}

-- those of its data frames, whether too many of them were missing at the last look, and the PMUs of its last configuration in its order
pub record SourceState : Type 0 where
  pub frames : Frames
  pub is_short : Bool
  pub pmus : List PmuQuality

abbrev pub no_source : SourceState
no_source = record { frames = no_frames; is_short = false; pmus = [] }

abbrev pub connected : SourceState → SourceState
connected s = record s { frames = at_connect s.frames }

-- it announced this configuration
abbrev pub announced : SourceState → Source → SourceState
announced s config = record s { frames = announced_to s.frames (rate_of config) (resolution config); pmus = pmus_from 0 s.pmus config.parts }

-- the same, and there was no memory for its PMUs
abbrev pub forgotten : SourceState → Source → SourceState
forgotten s config = record s { frames = announced_to s.frames (rate_of config) (resolution config); pmus = [] }

-- the machine's clock has come to this second
abbrev pub came_to : ℕ → SourceState → SourceState
came_to second s = record s { frames = at_second s.frames second; pmus = map (pmu_at second) s.pmus }

-- a data frame came when the machine's clock stood so
abbrev pub noted : Measurement → ℕ → SourceState → SourceState
noted m clock s = record s { frames = with_frame s.frames (time_of m) clock; pmus = map (pmu_noted m.body) s.pmus }

-- ---- looks

-- too many frames are missing in the minute up to this second
abbrev pub is_short_at : ℕ → SourceState → Bool
is_short_at second s = is_short_after s.is_short (last_minute s.frames.completeness second) s.frames.spans.rate

abbrev pub judged : ℕ → SourceState → SourceState
judged second s = record s { is_short = is_short_at second s }

abbrev pub judgement : ℕ → SourceState → Option Bool
judgement second s = change_of s.is_short (is_short_at second s)

-- a look at a PMU
abbrev pub looked_of : PmuQuality → PmuQuality
looked_of p = record p { blocks = record p.blocks { watch = looked p.blocks.watch p.blocks.stat } }

abbrev pub changes_in : PmuQuality → ℕ × PmuChanges
changes_in p = (p.id, changes_of p.blocks.watch p.blocks.stat)

-- the PMU at a place with another in its place
abbrev pub pmu_set : List PmuQuality → ℕ → Option PmuQuality → List PmuQuality
pmu_set ps place None = ps
pmu_set ps place (Some p) = slice_set ps place p

abbrev pub looked_at : ℕ → SourceState → SourceState
looked_at place s = record s { pmus = pmu_set s.pmus place (option_map looked_of (slice_get s.pmus place)) }

abbrev pub changes_at : ℕ → SourceState → Option (ℕ × PmuChanges)
changes_at place s = option_map changes_in (slice_get s.pmus place)
