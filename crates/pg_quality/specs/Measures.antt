-- The measures of a source's data frames, and of a PMU's data blocks.
use Rattle.std.specs.Prelude.{ℕ, ℤ, ◌==◌, if◌then◌else◌}
use Rattle.pg_quality.specs.Instants.{delay_of, millis_of}
use Rattle.pg_quality.specs.Placing.{SpanState, announced, no_span, no_spans, place_in, taken}
use Rattle.pg_quality.specs.Tallies.{nothing, nothing_came, rolled as with_rows, tally_of, with_tally}
use Rattle.pg_quality.specs.Delaying.{no_delays, noted as with_delay, rolled as with_histogram}
use Rattle.pg_quality.specs.Stats.{no_quality, no_stat, with_quality, with_stat}
use Rattle.pg_quality.specs.Frequencies.{at_second as with_band, no_frequency, noted as with_frequency}
use Rattle.pg_quality.specs.Watching.{nothing_seen}
use Rattle.pg_quality.specs.declared.frame_time.FrameTime.{FrameTime}
use Rattle.pg_quality.specs.declared.span.Place.{Place}
use Rattle.pg_quality.specs.declared.block_quality.Block.{Block}
use Rattle.pg_quality.specs.declared.block_quality.BlockQuality.{BlockQuality}
use Rattle.pg_quality.specs.declared.completeness.Completeness.{Completeness}
use Rattle.pg_quality.specs.declared.delay.Delays.{Delays}
use Rattle.pg_quality.specs.declared.time_quality.TimeQuality.{TimeQuality}

-- ---- frames

-- the spans of a source's instants, how many of these came, how long the frames took, and their time quality
pub record Frames : Type 0 where
  pub spans : SpanState
  pub completeness : Completeness
  pub delays : Delays
  pub time_quality : TimeQuality

abbrev pub no_frames : Frames
no_frames = record { spans = no_spans; completeness = nothing_came; delays = no_delays; time_quality = no_quality }

-- the source announced DATA_RATE and the resolution of FRACSEC
abbrev pub announced_to : Frames → ℤ → ℕ → Frames
announced_to q rate base = record q { spans = announced q.spans rate base }

-- the source connected: the next frame begins a span, and what comes since is counted from here
abbrev pub at_connect : Frames → Frames
at_connect q = record q {
  spans = record q.spans { span = no_span };
  completeness = record (with_rows q.completeness q.completeness.second) { connected = nothing };
}

-- another second of the machine's clock begins: what came in the one before is filed
abbrev pub at_roll : Frames → ℕ → Frames
at_roll q second = record q { completeness = with_rows q.completeness second; delays = with_histogram q.delays second }

abbrev pub at_second : Frames → ℕ → Frames
at_second q second = if second == q.completeness.second then q else at_roll q second

-- what a frame adds that stands so to those before it
abbrev pub placed : Frames → FrameTime → Place → Frames
placed q t place = record q { spans = taken q.spans t; completeness = with_tally q.completeness (tally_of place q.spans.rate) }

abbrev pub with_instant : Frames → FrameTime → Frames
with_instant q t = placed q t (place_in q.spans t)

-- a frame of this time came in this second, when the machine's clock stood so
abbrev pub with_frame : Frames → FrameTime → ℕ → Frames
with_frame q t clock = record (with_instant q t) {
  delays = record q.delays { current = with_delay q.delays.current (delay_of clock (millis_of t.soc t.frac q.spans.base)) };
  time_quality = with_quality q.time_quality t.quality;
}

-- ---- blocks

abbrev pub no_blocks : BlockQuality
no_blocks = record { stat = no_stat; frequency = no_frequency; watch = nothing_seen }

-- the machine's clock has come to this second
abbrev pub blocks_at : BlockQuality → ℕ → BlockQuality
blocks_at q second = record q { frequency = with_band q.frequency second }

-- a block came in this second
abbrev pub with_block : BlockQuality → Block → BlockQuality
with_block q b = record q { stat = with_stat q.stat b.stat; frequency = with_frequency q.frequency b.freq b.dfreq }
