-- The slots of a stream, and what its lines say of each.
use Rattle.std.specs.Prelude.{ℕ, ℤ, pos, int_lt, unsigned_abs, ◌+◌, ◌-◌, ◌*◌, ◌/◌, nat_lt, Option, Some, None, if◌then◌else◌}
use Rattle.pg_tools.specs.declared.slots.DataRate.{DataRate}
use Rattle.pg_tools.specs.declared.slots.DataRate.TheVariants.{Frames, Seconds}

-- DATA_RATE: frames a second where it is positive, else seconds a frame
abbrev pub rate_in : ℤ → DataRate
rate_in rate = if int_lt (pos 0) rate then Frames (unsigned_abs rate) else Seconds (unsigned_abs rate)

-- the slot of SOC and FRACSEC's numerator of so many parts of a second: of so many frames a second the nearest one; of one frame in so many seconds those since 1970
abbrev pub slot_of : DataRate → ℕ → ℕ → ℕ → ℕ
slot_of (Frames rate) soc frac base = soc * rate + (2 * frac * rate + base) / (2 * base)
slot_of (Seconds seconds) soc frac base = if nat_lt 0 seconds then soc / seconds else soc

-- how many slots have no frame between the last frame and the next one; None where that is not above it, and is not taken
abbrev pub gap_before : ℕ → ℕ → Option ℕ
gap_before last slot = if nat_lt last slot then Some (slot - last - 1) else None

-- the slot of the last frame then
abbrev pub last_after : ℕ → ℕ → ℕ
last_after last slot = if nat_lt last slot then slot else last
