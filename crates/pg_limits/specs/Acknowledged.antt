-- Since when a connection's other side acknowledged nothing, though bytes wait for it. Times are nanoseconds of the monotonic clock.
use Rattle.std.specs.Prelude.{ℕ, ◌-◌, ◌==◌, ◌||◌, max, nat_lt, Option, Some, None, is_some, not, if◌then◌else◌}

-- the greatest number of bytes that were acknowledged, and since when none more were though some wait; None where none wait
pub record Standing : Type 0 where
  pub acknowledged : ℕ
  pub since : Option ℕ

-- a new connection
abbrev pub fresh : Standing
fresh = record { acknowledged = 0; since = None }

-- the time from which on none were acknowledged: now, where more were than ever before or where none waited before
abbrev pub since_when : Standing → ℕ → ℕ → Option ℕ
since_when s acknowledged now = if nat_lt s.acknowledged acknowledged || not (is_some s.since) then Some now else s.since

-- at this time so many bytes were written, of which these are not acknowledged
abbrev pub looked : Standing → ℕ → ℕ → ℕ → Standing
looked s written queue now =
    record { acknowledged = max s.acknowledged (written - queue); since = if queue == 0 then None else since_when s (written - queue) now }
