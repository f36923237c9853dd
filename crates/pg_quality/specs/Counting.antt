-- Counters that saturate.
use Rattle.std.specs.Prelude.{ℕ, ◌+◌, ◌-◌, ◌^◌, min, Bool, if◌then◌else◌}

-- a counter after n more, at most the greatest 64-bit number
abbrev pub more : ℕ → ℕ → ℕ
more count n = min (count + n) (2 ^ 64 - 1)

-- the same where something is so
abbrev pub more_by : Bool → ℕ → ℕ → ℕ
more_by is_so count n = if is_so then more count n else count

-- after one more
abbrev pub more_if : Bool → ℕ → ℕ
more_if is_so count = more_by is_so count 1
