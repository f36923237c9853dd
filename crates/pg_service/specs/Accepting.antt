-- When a listener is asked for a connection. Times are nanoseconds of the monotonic clock.
use Rattle.std.specs.Prelude.{ℕ, Bool, true, false, Option, Some, None, if◌then◌else◌}
use Rattle.std.specs.Option.{option_map_or}
use Rattle.pg_limits.specs.Plans.{Awaited, is_over, left_of}

-- whether a connection may wait, and where the system could not accept one, since when and how long it is not tried again
pub record Accepting : Type 0 where
  pub may_wait : Bool
  pub retry : Option Awaited

-- A connection may wait: the listener is new, the system names it, or one was accepted.
abbrev pub one_may_wait : Accepting
one_may_wait = record { may_wait = true; retry = None }

abbrev pub none_waits : Accepting
none_waits = record { may_wait = false; retry = None }

-- the system could not accept now: it is tried again in a second
abbrev pub failed : ℕ → Accepting
failed now = record { may_wait = true; retry = Some (record { since = now; limit = 1000000000 }) }

abbrev pub is_due : ℕ → Accepting → Bool
is_due now a = option_map_or (is_over now) a.retry a.may_wait

-- how long until it is due, where it will be
abbrev pub left_by : ℕ → Accepting → Option ℕ
left_by now a = option_map_or (λ w. Some (left_of now w)) a.retry (if a.may_wait then Some 0 else None)
