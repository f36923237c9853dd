-- Counters at nothing, and counters that saturate.
use Rattle.std.specs.Prelude.{ℕ, ◌+◌, ◌-◌, ◌^◌, List, min, replicate, slice_set, slice_index_or}
use Rattle.pg_audit.specs.declared.counters.Stats.{Stats}
use Rattle.pg_audit.specs.declared.counters.PmuStats.{PmuStats}

-- a counter after n more, at most the greatest 64-bit number
abbrev pub more : ℕ → ℕ → ℕ
more count n = min (count + n) (2 ^ 64 - 1)

-- the counters by reason after one more of this number
abbrev pub counted : List ℕ → ℕ → List ℕ
counted counts number = slice_set counts number (more (slice_index_or counts number 0) 1)

-- all counters at 0
abbrev pub no_stats : Stats
no_stats = record {
  made = 0;
  dropped = 0;
  lost = 0;
  late = 0;
  twice = 0;
  cleared = 0;
  handed = 0;
  replies = 0;
  by_reason = replicate 41 0;
}

abbrev pub no_pmu_stats : PmuStats
no_pmu_stats = record { taken = 0; by_reason = replicate 41 0 }
