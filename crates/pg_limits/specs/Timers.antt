-- How long a subscriber that has connected is waited for. Times are nanoseconds of the monotonic clock.
use Rattle.std.specs.Prelude.{ℕ, ◌-◌, Bool, true, false, nat_le, ◌||◌, if◌then◌else◌, Option, Some, None, option_map, option_and_then}
use Rattle.std.specs.Option.{option_map_or}
use Rattle.pg_limits.specs.declared.timers.Timeout.{Timeout}
use Rattle.pg_limits.specs.declared.timers.Timeout.TheVariants.{Stalled, Unacknowledged, Idle}
use Rattle.pg_limits.specs.Plans.{Awaited, is_over, least, left_of, seconds}

-- since when it is connected, its limits, since when bytes wait of which its socket takes none, since when none of those that were sent
-- is acknowledged, and when a byte went either way last
pub record Waited : Type 0 where
  pub since : ℕ
  pub stall : Option ℕ
  pub idle : Option ℕ
  pub blocked : Option ℕ
  pub unacknowledged : Option ℕ
  pub active : ℕ

abbrev pub connected : Option ℕ → Option ℕ → ℕ → Waited
connected stall idle now = record { since = now; stall = stall; idle = idle; blocked = None; unacknowledged = None; active = now }

-- It is connected for 5 seconds at least, so that another connection may take its place.
abbrev pub is_settled : ℕ → Waited → Bool
is_settled now w = nat_le (seconds 5) (now - w.since)

-- its socket takes no more: from now on, where it took a byte just now, else from when it took none before
abbrev pub blocked_since : Bool → ℕ → Option ℕ → ℕ
blocked_since true now before = now
blocked_since false now None = now
blocked_since false now (Some since) = since

-- It was served: whether a byte came, whether its socket took one, and whether it takes no more.
abbrev pub served : ℕ → Bool → Bool → Bool → Waited → Waited
served now came took is_blocked w = record w {
  active = if came || took then now else w.active;
  blocked = if is_blocked then Some (blocked_since took now w.blocked) else None;
}

-- Since this time none of the bytes that were sent is acknowledged; None where all are.
abbrev pub acknowledging : Option ℕ → Waited → Waited
acknowledging since w = record w { unacknowledged = since }

-- what it is waited for: a byte that its socket takes, the acknowledgement of a byte, and a byte either way
abbrev pub stalls : Waited → Option Awaited
stalls w = option_and_then (λ since. option_map (λ limit. record { since = since; limit = limit }) w.stall) w.blocked

abbrev pub acknowledges : Waited → Option Awaited
acknowledges w = option_and_then (λ since. option_map (λ limit. record { since = since; limit = limit }) w.stall) w.unacknowledged

abbrev pub idles : Waited → Option Awaited
idles w = option_map (λ limit. record { since = w.active; limit = limit }) w.idle

-- why it is to be hung up by now
abbrev pub timeout_by : ℕ → Waited → Option Timeout
timeout_by now w =
    if option_map_or (is_over now) (stalls w) false then Some Stalled
    else if option_map_or (is_over now) (acknowledges w) false then Some Unacknowledged
    else if option_map_or (is_over now) (idles w) false then Some Idle else None

-- how long until it is hung up
abbrev pub left_by : ℕ → Waited → Option ℕ
left_by now w =
    least (option_map (left_of now) (stalls w)) (least (option_map (left_of now) (acknowledges w)) (option_map (left_of now) (idles w)))
