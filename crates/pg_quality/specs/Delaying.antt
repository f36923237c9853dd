-- The delay of frames, in milliseconds, by histograms of ten seconds of the machine's clock.
use Rattle.std.specs.Prelude.{ℕ, zero, suc, ◌+◌, ◌-◌, ◌*◌, ◌/◌, ◌%◌, ◌^◌, min, ℤ, pos, negsuc, ◌-ℤ◌, int_lt, unsigned_abs, Bool, ◌&&◌, nat_lt, nat_le, ◌==◌, List, [], ◌∷◌, sum, take, replicate, slice_set, slice_index_or, Option, Some, None, if◌then◌else◌}
use Rattle.std.specs.List.{fold}
use Rattle.std.specs.Int.{div_ceil, int_max, int_min}
use Rattle.pg_quality.specs.declared.delay.Histogram.{Histogram}
use Rattle.pg_quality.specs.declared.delay.Delays.{Delays}

-- ---- ranges, a quarter of a power of two wide

-- numbers below 8 have a range each; that of another lies four behind that of its half
unfoldable pub range_in : ℕ → ℕ → ℕ
range_in zero n = n
range_in (suc more) n = if nat_lt n 8 then n else 4 + range_in more (n / 2)

-- the range of a number; the last, 75, has all from 7 * 2 ^ 17 on
abbrev pub range_of : ℕ → ℕ
range_of n = range_in 20 (min n (2 ^ 20 - 1))

-- the least number of a range
abbrev pub start_of : ℕ → ℕ
start_of range = if nat_lt range 8 then range else (4 + range % 4) * 2 ^ (range / 4 - 1)

-- ---- buckets: 76 of ranges from 0 on, and before them 76 for those below 0, the farthest first

abbrev pub bucket_of : ℤ → ℕ
bucket_of delay = if int_lt delay (pos 0) then 75 - range_of (unsigned_abs delay - 1) else 76 + range_of (unsigned_abs delay)

-- the greatest delay of a bucket before the last
abbrev pub end_of : ℕ → ℤ
end_of bucket = if nat_lt bucket 76 then negsuc 0 -ℤ pos (start_of (75 - bucket)) else pos (start_of (bucket - 75)) -ℤ pos 1

-- ---- one histogram

abbrev pub capped : ℕ → ℕ
capped n = min n (2 ^ 32 - 1)

abbrev pub empty : ℕ → Histogram
empty number = record { number = number; least = pos (2 ^ 63 - 1); greatest = negsuc (2 ^ 63 - 1); counts = replicate 152 0 }

-- one more of a bucket
abbrev pub counted : List ℕ → ℕ → List ℕ
counted counts bucket = slice_set counts bucket (capped (slice_index_or counts bucket 0 + 1))

abbrev pub noted : Histogram → ℤ → Histogram
noted h delay = record h { least = int_min h.least delay; greatest = int_max h.greatest delay; counts = counted h.counts (bucket_of delay) }

-- bucket by bucket, as far as both go, and each at most so many
abbrev pub added : ℕ → List ℕ → List ℕ → List ℕ
added most [] ns = []
added most (m ∷ ms) [] = m ∷ ms
added most (m ∷ ms) (n ∷ ns) = min (m + n) most ∷ added most ms ns

abbrev pub both : Histogram → Histogram → Histogram
both a b = record a { least = int_min a.least b.least; greatest = int_max a.greatest b.greatest; counts = added (2 ^ 32 - 1) a.counts b.counts }

-- the first bucket up to which there are so many frames
abbrev pub reached : List ℕ → ℕ → ℕ
reached [] rank = 0
reached (n ∷ ns) rank = if nat_le rank n then 0 else 1 + reached ns (rank - n)

-- the greatest delay of a bucket here
abbrev pub end_in : Histogram → ℕ → ℤ
end_in h bucket = if nat_le 151 bucket then h.greatest else int_min h.greatest (end_of bucket)

-- a delay that so many thousandths of the frames have at most
abbrev pub quantile_of : Histogram → ℕ → Option ℤ
quantile_of h thousandths =
    if sum h.counts == 0 then None else Some (end_in h (reached h.counts (div_ceil (sum h.counts * thousandths) 1000)))

-- ---- the last 60 seconds

abbrev pub no_delays : Delays
no_delays = record { current = empty 0; filed = replicate 6 (empty 0); totals = replicate 152 0 }

-- a second begins: where it is of another ten seconds, those before are filed at their number mod 6
abbrev pub rolled : Delays → ℕ → Delays
rolled d second =
    if second / 10 == d.current.number then d
    else record {
      current = empty (second / 10);
      filed = slice_set d.filed (d.current.number % 6) d.current;
      totals = added (2 ^ 64 - 1) d.totals d.current.counts;
    }

-- ten seconds are these, or one of the six before
abbrev pub is_within : ℕ → ℕ → Bool
is_within number last = nat_le number last && nat_le (last - number) 6

abbrev pub with_one : ℕ → Histogram → Histogram → Histogram
with_one last total h = if is_within h.number last then both total h else total

abbrev pub last_minute : Delays → ℕ → Histogram
last_minute d second = fold (with_one (second / 10)) (with_one (second / 10) (empty (second / 10)) d.current) d.filed

-- ---- all frames

-- those with a delay of the first so many buckets
abbrev pub below : Delays → ℕ → ℕ
below d bucket = min (sum (take bucket d.totals) + sum (take bucket d.current.counts)) (2 ^ 64 - 1)
