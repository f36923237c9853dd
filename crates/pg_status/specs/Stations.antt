-- Names of stations, as they are shown.
use Rattle.std.specs.Prelude.{ℕ, nat_lt, ◌==◌, ◌||◌, if◌then◌else◌}

-- a space for NUL, and a question mark for what is not printable ASCII
unfoldable pub shown : ℕ → ℕ
shown byte = if byte == 0 then 32 else if nat_lt byte 32 || nat_lt 126 byte then 63 else byte
