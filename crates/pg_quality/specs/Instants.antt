-- The instants of DATA_RATE, and the delay of a data frame (C37.118.2, 6.2 and 6.4). Clocks are milliseconds since 1970-01-01 00:00 UTC.
use Rattle.std.specs.Prelude.{ℕ, ◌+◌, ◌-◌, ◌*◌, ◌/◌, ◌%◌, ◌^◌, min, nat_le, ℤ, pos, ◌-ℤ◌, int_lt, unsigned_abs, if◌then◌else◌}

-- the whole number nearest to n / d, and of two equally near the greater
abbrev pub nearest : ℕ → ℕ → ℕ
nearest n d = n / d + (if nat_le d (2 * (n % d)) then 1 else 0)

-- the number of the instant nearest to SOC + numerator / resolution, counted from 1970: a negative DATA_RATE counts seconds a frame
abbrev pub instant_of : ℤ → ℕ → ℕ → ℕ → ℕ
instant_of rate soc frac base =
    if int_lt rate (pos 0) then nearest (soc * base + frac) (unsigned_abs rate * base)
    else soc * unsigned_abs rate + nearest (frac * unsigned_abs rate) base

-- SOC + numerator / resolution in whole milliseconds
abbrev pub millis_of : ℕ → ℕ → ℕ → ℕ
millis_of soc frac base = soc * 1000 + frac * 1000 / base

-- the clock less the stamp
abbrev pub delay_of : ℕ → ℕ → ℤ
delay_of clock stamp = pos (min clock (2 ^ 63 - 1)) -ℤ pos stamp
