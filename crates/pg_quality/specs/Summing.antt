-- What those that ask are answered of a source's data frames.
use Rattle.std.specs.Prelude.{ℕ, ℤ, pos, negsuc, List, [], ◌∷◌, map, Option, Some, None}
use Rattle.pg_quality.specs.Tallies.{both, last_hour, last_minute as tally_of_minute}
use Rattle.pg_quality.specs.Measures.{Frames}
use Rattle.pg_quality.specs.Delaying.{below, bucket_of, last_minute, quantile_of}
use Rattle.pg_quality.specs.declared.delay.Delays.{Delays}
use Rattle.pg_quality.specs.declared.delay.Histogram.{Histogram}
use Rattle.pg_quality.specs.declared.summary.DelaySummary.{DelaySummary}
use Rattle.pg_quality.specs.declared.summary.FrameSummary.{FrameSummary}

-- bounds of delays, in milliseconds
abbrev pub metric_bounds : List ℤ
metric_bounds = negsuc 1023 ∷ negsuc 127 ∷ negsuc 15 ∷ pos 0 ∷ pos 16 ∷ pos 32 ∷ pos 64 ∷ pos 128 ∷ pos 256 ∷ pos 512 ∷ pos 1024 ∷ pos 2048 ∷ pos 8192 ∷ []

-- the frames with a delay below each bound
abbrev pub delays_below : Delays → List ℤ → List ℕ
delays_below d bounds = map (λ bound. below d (bucket_of bound)) bounds

-- a delay with two quantiles that were found, or none
abbrev pub summary_with : Histogram → Option ℤ → Option ℤ → Option DelaySummary
summary_with h None most = None
summary_with h (Some median) None = None
summary_with h (Some median) (Some most) = Some (record { least = h.least; median = median; most = most; greatest = h.greatest })

abbrev pub delay_summary : Histogram → Option DelaySummary
delay_summary h = summary_with h (quantile_of h 500) (quantile_of h 990)

abbrev pub frame_summary : Frames → ℕ → FrameSummary
frame_summary q second = record {
  rate = q.spans.rate;
  minute = tally_of_minute q.completeness second;
  hour = last_hour q.completeness second;
  connected = both q.completeness.connected q.completeness.current;
  spans = q.spans.counts.begun;
  repeated = q.spans.counts.repeated;
  out_of_order = q.spans.counts.out_of_order;
  delay = delay_summary (last_minute q.delays second);
  below = delays_below q.delays metric_bounds;
  frames = below q.delays 152;
  time_quality = q.time_quality;
}
