-- How the clocks of connected sources stand to this machine's. Differences are in milliseconds: ahead of it where positive, behind it where
-- negative.
use Rattle.std.specs.Prelude.{ℕ, ◌+◌, ◌-◌, ◌^◌, ℤ, pos, negsuc, if◌then◌else◌, Option, Some, None}
use Rattle.std.specs.Int.{int_max, int_min}
use Rattle.pg_limits.specs.Clocks.{is_wrong}
use Rattle.pg_limits.specs.Credits.{capped}

-- how many sources are connected; how many of them are refused since the time of their data is ahead of this machine's clock, and how many
-- since it is behind; and the difference of the nearest of each
pub record Sources : Type 0 where
  pub connected : ℕ
  pub ahead : ℕ
  pub behind : ℕ
  pub least_ahead : ℤ
  pub least_behind : ℤ

-- no source: the nearest of none is as far as a number of 64 bits goes
abbrev pub none : Sources
none = record { connected = 0; ahead = 0; behind = 0; least_ahead = pos (2 ^ 63 - 1); least_behind = negsuc (2 ^ 63 - 1) }

-- one source, whose data are refused for this difference, if for any
abbrev pub one : Option ℤ → Sources
one None = record none { connected = 1 }
one (Some (pos n)) = record none { connected = 1; ahead = 1; least_ahead = pos n }
one (Some (negsuc n)) = record none { connected = 1; behind = 1; least_behind = negsuc n }

-- the sources of both
abbrev pub both : Sources → Sources → Sources
both a b = record {
  connected = capped (a.connected + b.connected);
  ahead = capped (a.ahead + b.ahead);
  behind = capped (a.behind + b.behind);
  least_ahead = int_min a.least_ahead b.least_ahead;
  least_behind = int_max a.least_behind b.least_behind;
}

-- by how much this machine's clock is probably wrong: where it is, by the difference of the nearest source in that direction
abbrev pub wrong_by : Sources → Option ℤ
wrong_by s =
    if is_wrong s.connected s.ahead then Some s.least_ahead
    else if is_wrong s.connected s.behind then Some s.least_behind else None
