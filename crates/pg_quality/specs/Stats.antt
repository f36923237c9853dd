-- STAT of data blocks (C37.118.2, 6.3, table 7), and the time quality of data frames (FRACSEC's top byte, 6.2).
use Rattle.std.specs.Prelude.{ℕ, ◌/◌, ◌%◌, ◌^◌, Bool, not, ◌==◌, List, replicate, slice_set, slice_index_or, Some, None, if◌then◌else◌}
use Rattle.std.specs.Int.{bit_at}
use Rattle.pg_quality.specs.Counting.{more, more_by, more_if}
use Rattle.pg_quality.specs.declared.stat.StatCounts.{StatCounts}
use Rattle.pg_quality.specs.declared.time_quality.TimeQuality.{TimeQuality}

abbrev pub is_set : ℕ → ℕ → Bool
is_set word bit = bit_at word bit == 1

-- so many more of a code, unless it is 0
abbrev pub with_code : List ℕ → ℕ → ℕ → List ℕ
with_code counts code n = if code == 0 then counts else slice_set counts code (more (slice_index_or counts code 0) n)

abbrev pub no_stat : StatCounts
no_stat = record {
  last = 0;
  trigger_reason = None;
  pmu_error = 0;
  test_or_absent = 0;
  do_not_use = 0;
  out_of_sync = 0;
  by_arrival = 0;
  triggered = 0;
  changing = 0;
  modified = 0;
  time_quality = replicate 8 0;
  unlocked = replicate 4 0;
}

-- so many blocks came with this STAT
abbrev pub with_stats : StatCounts → ℕ → ℕ → StatCounts
with_stats c stat n = record {
  last = stat;
  trigger_reason = if is_set stat 11 then Some (stat % 16) else c.trigger_reason;
  pmu_error = more_by (stat / 2 ^ 14 == 1) c.pmu_error n;
  test_or_absent = more_by (stat / 2 ^ 14 == 2) c.test_or_absent n;
  do_not_use = more_by (stat / 2 ^ 14 == 3) c.do_not_use n;
  out_of_sync = more_by (is_set stat 13) c.out_of_sync n;
  by_arrival = more_by (is_set stat 12) c.by_arrival n;
  triggered = more_by (is_set stat 11) c.triggered n;
  changing = more_by (is_set stat 10) c.changing n;
  modified = more_by (is_set stat 9) c.modified n;
  time_quality = with_code c.time_quality ((stat / 2 ^ 6) % 8) n;
  unlocked = with_code c.unlocked ((stat / 2 ^ 4) % 4) n;
}

abbrev pub with_stat : StatCounts → ℕ → StatCounts
with_stat c stat = with_stats c stat 1

-- so many more blocks came with the last STAT
abbrev pub with_last : StatCounts → ℕ → StatCounts
with_last c n = if n == 0 then c else with_stats c c.last n

-- ---- the frame's time quality

abbrev pub no_quality : TimeQuality
no_quality = record { last = 0; not_locked = 0; unreliable = 0 }

-- a frame came with this time quality: its code is in bits 3 to 0
abbrev pub with_quality : TimeQuality → ℕ → TimeQuality
with_quality t quality = record {
  last = quality;
  not_locked = more_if (not (quality % 16 == 0)) t.not_locked;
  unreliable = more_if (quality % 16 == 15) t.unreliable;
}
