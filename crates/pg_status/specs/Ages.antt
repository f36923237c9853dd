-- The ages of frames, counted by how old they are.
use Rattle.std.specs.Prelude.{ℕ, List, Option, Some, None, nat_le, slice_index, slice_set, replicate, min, ◌+◌}
use Rattle.std.specs.List.{position}
use Rattle.pg_status.specs.declared.histogram.Histogram.{Histogram}

-- no age was seen
abbrev pub no_ages : Histogram
no_ages = record { counts = replicate 12 0; beyond = 0; micros = 0 }

-- the bucket of an age: the first whose bound it does not exceed; none where it exceeds all
abbrev pub bucket_of : List ℕ → ℕ → Option ℕ
bucket_of bounds age = position (λ bound. nat_le age bound) bounds

-- one more, up to the largest number of 64 bits
abbrev pub one_more : ℕ → ℕ
one_more count = min 18446744073709551615 (count + 1)

-- the counts of the buckets after one more age in this bucket
abbrev pub with_one_more : Option ℕ → List ℕ → List ℕ
with_one_more None counts = counts
with_one_more (Some place) counts = slice_set counts place (one_more (slice_index counts place))

-- the count of the ages beyond all bounds
abbrev pub beyond_after : Option ℕ → ℕ → ℕ
beyond_after None beyond = one_more beyond
beyond_after (Some place) beyond = beyond
