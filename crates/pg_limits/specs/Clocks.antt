-- How far a measurement's time is from a clock.
use Rattle.std.specs.Prelude.{ℕ, ◌+◌, ◌*◌, ◌/◌, ◌-◌, ◌^◌, min, max, ℤ, pos, ◌-ℤ◌, Bool, nat_le, nat_lt, ◌&&◌, List, length, filter, count_by, Option, if◌then◌else◌}
use Rattle.std.specs.List.{reduce}
use Rattle.std.specs.Option.{unwrap_or}

-- The instant SOC + numerator / resolution and a clock's milliseconds since 1970 differ by at most so many milliseconds: both sides
-- in parts of a millisecond, of which a second has 1,000 times the resolution.
abbrev pub is_near : ℕ → ℕ → ℕ → ℕ → ℕ → Bool
is_near limit now soc frac base =
    nat_le ((soc * base + frac) * 1000) ((now + limit) * base) && nat_le (now * base) ((soc * base + frac) * 1000 + limit * base)

-- a frame's time in whole milliseconds since 1970: SOC + numerator / resolution seconds
abbrev pub millis_of : ℕ → ℕ → ℕ → ℕ
millis_of soc frac base = soc * 1000 + frac * 1000 / max base 1

-- by how many milliseconds a time is ahead of a clock
abbrev pub ahead_by : ℕ → ℕ → ℤ
ahead_by time clock = pos time -ℤ pos (min clock (2 ^ 63 - 1))

-- Of the connected sources more than half are refused for one direction, and two at least: then the clock is probably wrong.
abbrev pub is_wrong : ℕ → ℕ → Bool
is_wrong connected refused = nat_le 2 refused && nat_lt connected (refused * 2)

-- ---- the clocks of all sources

-- at least half of these times are at most this one
abbrev pub has_half : List ℕ → ℕ → Bool
has_half times time = nat_le (length times) (2 * count_by (λ other. nat_le other time) times)

-- the lower median of some times: the least of them that at least half of them are at most
abbrev pub lower_median : List ℕ → Option ℕ
lower_median times = reduce min (filter (has_half times) times)

-- what a measurement's time is held against: this machine's clock, or the lower median of the newest times of all sources where that is
-- later; the clock alone where there are not two sources
abbrev pub reference : ℕ → List ℕ → ℕ
reference clock times = if nat_lt 1 (length times) then max clock (unwrap_or (lower_median times) clock) else clock

-- The instant SOC + numerator / resolution is later than a reference's milliseconds since 1970 by more than so many milliseconds: both
-- sides in parts of a millisecond, of which a second has 1,000 times the resolution.
abbrev pub is_ahead : ℕ → ℕ → ℕ → ℕ → ℕ → Bool
is_ahead limit reference soc frac base = nat_lt ((reference + limit) * base) ((soc * base + frac) * 1000)
