-- Whether all data of a stream come too late for it, by looks at it.
use Rattle.std.specs.Prelude.{ℕ, ◌+◌, ◌-◌, min, Bool, false, nat_le, if◌then◌else◌, Option, None, Some}
use Rattle.pg_subscribers.specs.declared.late_watch.StreamLook.{StreamLook}

-- five blocks or more came too late since the look before, at which so many had
abbrev pub were_late : Option ℕ → ℕ → Bool
were_late None late = false
were_late (Some before) late = nat_le 5 (late - before)

-- the next look, where no frame left since the last one, and so many blocks have come too late by now
abbrev pub looked : StreamLook → ℕ → StreamLook
looked s late = record s { late = Some late; looks = if were_late s.late late then min (s.looks + 1) 255 else 0 }
