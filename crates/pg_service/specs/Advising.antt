-- Which `wait` and `window` the delays of a stream's members ask for. Delays are in milliseconds.
use Rattle.std.specs.Prelude.{ℕ, ◌+◌, ◌-◌, ◌*◌, ◌^◌, min, ℤ, pos, negsuc, ◌+ℤ◌, ◌-ℤ◌, int_le, unsigned_abs, Bool, ◌==◌, nat_lt, List, [], ◌∷◌, length, sum, Option, Some, None, if◌then◌else◌}
use Rattle.std.specs.List.{fold}
use Rattle.std.specs.Option.{unwrap_or}
use Rattle.std.specs.Int.{w64, div_ceil, int_max, int_min, saturate_signed}
use Rattle.pg_quality.specs.declared.delay.Histogram.{Histogram}
use Rattle.pg_quality.specs.Delaying.{below, bucket_of, no_delays, quantile_of}
use Rattle.pg_service.specs.declared.advice.Advice.{Advice}
use Rattle.pg_service.specs.declared.advice.MemberDelays.{MemberDelays}
use Rattle.pg_service.specs.declared.advice.StreamPace.{StreamPace}

-- ---- what a wait has to bridge

-- the delay that a source keeps with 99.9 per cent of its frames
abbrev pub most_in : Histogram → ℤ
most_in h = unwrap_or (quantile_of h 999) (negsuc (2 ^ 63 - 1))

-- the least delay of any source, and the greatest that one keeps with 99.9 per cent of its frames
abbrev pub least_of : List MemberDelays → ℤ
least_of sources = fold (λ least s. int_min least s.delays.least) (pos (2 ^ 63 - 1)) sources

abbrev pub most_of : List MemberDelays → ℤ
most_of sources = fold (λ most s. int_max most (most_in s.delays)) (negsuc (2 ^ 63 - 1)) sources

abbrev pub lateness : ℤ → ℤ → ℕ
lateness delay least = if int_le delay least then 0 else unsigned_abs (delay -ℤ least)

-- The data of one source come together: then there is nothing to wait for.
abbrev pub spread_of : List MemberDelays → ℕ
spread_of sources = if nat_lt (length sources) 2 then 0 else lateness (most_of sources) (least_of sources)

-- ---- the numbers of a definition

-- each stays at 2 ^ 64 - 1 once it is there
abbrev pub capped : ℕ → ℕ
capped n = min n (2 ^ 64 - 1)

-- A wait of n ticks is n - 1 ticks long at least.
abbrev pub ticks_for : ℕ → ℕ → ℕ
ticks_for millis tick_ms = if millis == 0 then 0 else capped (div_ceil millis tick_ms + 1)

-- the frames that begin within the wait, and the one that waits
abbrev pub window_for : ℕ → StreamPace → ℕ
window_for wait pace = capped (div_ceil (capped (capped (wait * pace.tick_ms) * pace.rate)) 1000 + 1)

-- ---- what comes too late for the wait in force

abbrev pub sure_wait : StreamPace → ℕ
sure_wait pace = (pace.wait - 1) * pace.tick_ms

-- frames in buckets that end at a delay or before
abbrev pub in_time : ℤ → Histogram → ℕ
in_time bound h = below (record no_delays { current = h }) (bucket_of (saturate_signed w64 (bound +ℤ pos 1)))

abbrev pub late_in : ℤ → MemberDelays → ℕ
late_in bound s = if int_le s.delays.greatest bound then 0 else capped ((sum s.delays.counts - in_time bound s.delays) * s.members)

abbrev pub bound_of : List MemberDelays → StreamPace → ℤ
bound_of sources pace = saturate_signed w64 (least_of sources +ℤ pos (sure_wait pace))

abbrev pub late_above : ℤ → List MemberDelays → ℕ
late_above bound sources = fold (λ late s. capped (late + late_in bound s)) 0 sources

abbrev pub late_of : List MemberDelays → StreamPace → ℕ
late_of sources pace = if nat_lt (length sources) 2 then 0 else late_above (bound_of sources pace) sources

abbrev pub blocks_in : MemberDelays → ℕ
blocks_in s = capped (sum s.delays.counts * s.members)

abbrev pub blocks_of : List MemberDelays → ℕ
blocks_of sources = fold (λ blocks s. capped (blocks + blocks_in s)) 0 sources

-- ---- who is late

-- By how many milliseconds 99 per cent of a source's frames come after the first member's.
abbrev pub behind_in : ℕ → Option ℤ → ℤ → ℕ
behind_in count None least = 0
behind_in count (Some delay) least = if nat_lt count 2 then 0 else lateness delay least

abbrev pub behind_of : List MemberDelays → MemberDelays → ℕ
behind_of sources s = behind_in (length sources) (quantile_of s.delays 990) (least_of sources)

-- above the wait, and then until it is surely within it
abbrev pub is_late_after : Bool → ℕ → StreamPace → Bool
is_late_after was_late behind pace = if was_late then nat_lt (sure_wait pace) behind else nat_lt (pace.wait * pace.tick_ms) behind

-- ---- all of it

abbrev pub advice_for : List MemberDelays → StreamPace → Advice
advice_for sources pace = record {
  wait = ticks_for (spread_of sources) pace.tick_ms;
  window = window_for (ticks_for (spread_of sources) pace.tick_ms) pace;
  late = late_of sources pace;
  blocks = blocks_of sources;
}
