-- When a source is called, and at which of its addresses; when it is asked again and called anew. Times are nanoseconds of the monotonic clock.
use Rattle.std.specs.Prelude.{ℕ, zero, suc, ◌-◌, ◌*◌, ◌/◌, min, max, ℤ, pos, negsuc, Bool, false, nat_le, nat_lt, nat_eq, if◌then◌else◌, Option, Some, None, option_map}
use Rattle.std.specs.Option.{option_map_or}
use Rattle.std.specs.Duration.{max_nanos}
use Rattle.pg_limits.specs.Calling.{longer}
use Rattle.pg_limits.specs.declared.plan.Phase.{Phase}
use Rattle.pg_limits.specs.declared.plan.Phase.TheVariants.{Resting, Calling, Up}
use Rattle.pg_limits.specs.declared.plan.Action.{Action}
use Rattle.pg_limits.specs.declared.plan.Action.TheVariants.{Nothing, Call, GiveUp, Silent, Ask}

-- what is waited for: since when, and how long at most
pub record Awaited : Type 0 where
  pub since : ℕ
  pub limit : ℕ

abbrev pub is_over : ℕ → Awaited → Bool
is_over now w = nat_le w.limit (now - w.since)

abbrev pub left_of : ℕ → Awaited → ℕ
left_of now w = w.limit - (now - w.since)

-- how long until the first of two
abbrev pub least : Option ℕ → Option ℕ → Option ℕ
least None b = b
least (Some a) None = Some a
least (Some a) (Some b) = Some (min a b)

-- the first and the last measurement of a connection
pub record Span : Type 0 where
  pub first : ℕ
  pub last : ℕ

-- a source's plan: what its line does, the pause in seconds, when it was called last, how long it may be silent, three periods of its
-- frames, and what is waited for. Of its connection: the measurement for which it is asked again, when a byte came last, and the first
-- and the last measurement. Of its addresses: how many it has, the place of the one that is called, and how many were tried since the
-- last pause.
pub record Plan : Type 0 where
  pub phase : Phase
  pub pause : ℕ
  pub called : Option ℕ
  pub silence : Option ℕ
  pub periods : ℕ
  pub wait : Option Awaited
  pub ask : Awaited
  pub byte : ℕ
  pub measured : Option Span
  pub addresses : ℕ
  pub at : ℕ
  pub tried : ℕ

abbrev pub seconds : ℕ → ℕ
seconds n = n * 1000000000

-- three times the time from frame to frame of a DATA_RATE: frames per second where positive, seconds per frame where negative
abbrev pub three_periods : ℤ → ℕ
three_periods (pos zero) = 0
three_periods (pos (suc n)) = 3000000000 / suc n
three_periods (negsuc n) = seconds (3 * suc n)

-- the plan with something to wait for from now on
abbrev pub awaiting : ℕ → ℕ → Plan → Plan
awaiting now limit p = record p { wait = Some (record { since = now; limit = limit }) }

-- A connection may be silent from then on for as long as it may, or for three periods where these are longer.
abbrev pub listening : ℕ → Plan → Plan
listening since p = record p { wait = option_map (λ s. record { since = since; limit = max s p.periods }) p.silence }

-- It is asked again after 3 seconds without a measurement, or after three periods where these are longer.
abbrev pub asking : ℕ → Plan → Plan
asking now p = record p { ask = record { since = now; limit = max (seconds 3) p.periods } }

-- Of one second between two calls so much is left.
abbrev pub apart : ℕ → Option ℕ → ℕ
apart now None = 0
apart now (Some last) = seconds 1 - (now - last)

-- A line rests for the pause, and until a second after the last call.
abbrev pub resting : ℕ → Plan → Plan
resting now p = awaiting now (max (seconds p.pause) (apart now p.called)) (record p { phase = Resting })

-- ---- what happens

-- the plan of a source with one address that is to be called at once
abbrev pub begun : ℕ → Option ℕ → Plan
begun now silence = record {
  phase = Resting;
  pause = 0;
  called = None;
  silence = silence;
  periods = 0;
  wait = Some (record { since = now; limit = 0 });
  ask = record { since = now; limit = seconds 3 };
  byte = now;
  measured = None;
  addresses = 1;
  at = 0;
  tried = 0;
}

-- so many addresses, of which this one is called
abbrev pub addressed : ℕ → ℕ → Plan → Plan
addressed count at p = record p { addresses = count; at = at }

abbrev pub calling : ℕ → ℕ → Plan → Plan
calling limit now p = awaiting now (seconds limit) (record p { phase = Calling; called = Some now; measured = None })

-- a connection was begun
abbrev pub called : ℕ → Plan → Plan
called now p = calling 10 now p

-- its name is looked up
abbrev pub sought : ℕ → Plan → Plan
sought now p = calling 5 now p

abbrev pub made : ℕ → Plan → Plan
made now p = listening now (asking now (record p { phase = Up; periods = 0; byte = now; measured = None }))

-- bytes came
abbrev pub received : ℕ → Plan → Plan
received now p = record p { byte = now }

-- since when it is silent
abbrev pub silent_since : ℕ → Option Awaited → ℕ
silent_since now None = now
silent_since now (Some w) = w.since

-- An announcement, with its DATA_RATE. Where this tells a period it is no sign of life by itself.
abbrev pub announced : ℕ → ℤ → Plan → Plan
announced now rate p = listening (if nat_eq (three_periods rate) 0 then now else silent_since now p.wait)
    (record p { periods = three_periods rate; ask = record p.ask { limit = max p.ask.limit (three_periods rate) } })

abbrev pub measured_by : ℕ → Option Span → Span
measured_by now None = record { first = now; last = now }
measured_by now (Some s) = record s { last = now }

abbrev pub measured : ℕ → Plan → Plan
measured now p = listening now (asking now (record p { measured = Some (measured_by now p.measured) }))

-- It was asked again: the next time is twice as far from the last measurement.
abbrev pub asked : Plan → Plan
asked p = record p { ask = record p.ask { limit = min (p.ask.limit * 2) max_nanos } }

-- A connection that told measurements for 10 seconds sets the pause back.
abbrev pub is_proven : Option Span → Bool
is_proven None = false
is_proven (Some s) = nat_le (seconds 10) (s.last - s.first)

-- a connection to the first address, in place of the one that stood
abbrev pub first_made : ℕ → Plan → Plan
first_made now p = made now (record p { called = Some now; at = 0; tried = 0 })

-- the next address; the first one behind the last
abbrev pub next_address : Plan → ℕ
next_address p = if nat_lt p.at (p.addresses - 1) then suc p.at else 0

-- Of the addresses so many were tried since the last pause, before this one.
abbrev pub tried_before : Plan → ℕ
tried_before p = if is_proven p.measured then 0 else p.tried

-- Where others are not tried yet, the next one is called at once; else behind a pause.
abbrev pub ended : ℕ → Plan → Plan
ended now p =
    if nat_lt (tried_before p) (p.addresses - 1)
    then awaiting now 0 (record p { phase = Resting; pause = if is_proven p.measured then 0 else p.pause; at = next_address p; tried = suc (tried_before p) })
    else resting now (record p { pause = if is_proven p.measured then 0 else longer p.pause; at = next_address p; tried = 0 })

abbrev pub renewed : ℕ → Plan → Plan
renewed now p = resting now (record p { pause = 0 })

abbrev pub rested : Plan → Plan
rested p = record p { phase = Resting; pause = 0; wait = None }

-- ---- what is to be done

-- how long until a connection is asked again: until a measurement is overdue, and no byte has come for a second
abbrev pub ask_left : ℕ → Plan → ℕ
ask_left now p = max (left_of now p.ask) (seconds 1 - (now - p.byte))

abbrev pub ask_in : Phase → ℕ → Plan → Option ℕ
ask_in Resting now p = None
ask_in Calling now p = None
ask_in Up now p = Some (ask_left now p)

abbrev pub step_in : Phase → Action
step_in Resting = Call
step_in Calling = GiveUp
step_in Up = Silent

abbrev pub due_by : ℕ → Plan → Action
due_by now p =
    if option_map_or (is_over now) p.wait false then step_in p.phase
    else if option_map_or (nat_eq 0) (ask_in p.phase now p) false then Ask else Nothing

-- how long until something is to be done
abbrev pub left_by : ℕ → Plan → Option ℕ
left_by now p = least (option_map (left_of now) p.wait) (ask_in p.phase now p)
