-- What the faults of a simulated source make of its frames. Instants are microseconds of its clock since 1970-01-01 00:00 UTC.
use Rattle.std.specs.Prelude.{ℕ, ◌+◌, ◌-◌, ◌*◌, ◌/◌, ◌%◌, Bool, nat_lt, nat_le, ◌&&◌, min, Option, Some, None, bit_or, if◌then◌else◌}
use Rattle.pg_tools.specs.Holdover.{stat_of, quality_of}
use Rattle.pg_tools.specs.declared.source_faults.Faults.{Faults}

-- `reconfigure`: the number of the configuration that is in force; each is for so many seconds, counted from 1970, and 0 seconds are for ever
abbrev pub configuration_at : ℕ → ℕ → ℕ
configuration_at seconds at = if nat_lt 0 seconds then at / (1000000 * seconds) else 0

-- for how long STAT bit 10 is set before the configuration changes: a minute (C37.118.2, 6.3), or half of the time between two changes where that is less
abbrev pub announced_for : ℕ → ℕ
announced_for seconds = min 60000000 (500000 * seconds)

abbrev pub is_changing : ℕ → ℕ → Bool
is_changing seconds at = nat_lt 0 seconds && nat_le (1000000 * seconds - at % (1000000 * seconds)) (announced_for seconds)

-- `unlock`: for how long the clock has been without its source, which it lost so many seconds after the start; None where it has it
abbrev pub unlocked_at : Option ℕ → ℕ → ℕ → Option ℕ
unlocked_at None start at = None
unlocked_at (Some seconds) start at = if nat_le (start + 1000000 * seconds) at then Some (at - (start + 1000000 * seconds)) else None

-- STAT of each block, and the time quality byte of each data frame: the bits of all faults together
abbrev pub stat_at : Faults → ℕ → ℕ → ℕ
stat_at faults start at =
    bit_or (bit_or faults.stat (if is_changing faults.reconfigure at then 1024 else 0)) (stat_of (unlocked_at faults.unlock start at))

abbrev pub quality_at : Faults → ℕ → ℕ → ℕ
quality_at faults start at = bit_or faults.quality (quality_of (unlocked_at faults.unlock start at))

-- `backlog`: the instant up to which frames are sent: the last one that is a multiple of so many seconds
abbrev pub released_at : ℕ → ℕ → ℕ
released_at seconds at = if nat_lt 0 seconds then at - at % (1000000 * seconds) else at

-- and when a frame of an instant is sent: at the next multiple
abbrev pub sent_at : ℕ → ℕ → ℕ
sent_at seconds at =
    if nat_lt 0 seconds && nat_lt 0 (at % (1000000 * seconds)) then at + (1000000 * seconds - at % (1000000 * seconds)) else at
