-- The time that a recording goes on, in milliseconds.
use Rattle.std.specs.Prelude.{ℕ, ◌+◌, ◌-◌, ◌^◌, max, min, ◌&&◌, nat_le, Bool, if◌then◌else◌}
use Rattle.pg_record.specs.declared.elapsed.Elapsed.{Elapsed}

abbrev pub nothing_yet : Elapsed
nothing_yet = record { newest = 0; passed = 0 }

-- two times lie five seconds apart at most
abbrev pub are_near : ℕ → ℕ → Bool
are_near a b = nat_le (a - b) 5000 && nat_le (b - a) 5000

-- something was recorded at this time: where that is far from the newest one, the machine's clock was set, and no time has passed
abbrev pub gone_on : Elapsed → ℕ → Elapsed
gone_on e at =
    if are_near at e.newest then record { newest = max e.newest at; passed = min (e.passed + (at - e.newest)) (2 ^ 64 - 1) }
    else record e { newest = at }
