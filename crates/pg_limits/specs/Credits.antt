-- How many frames may be made before those that were made are handed out.
use Rattle.std.specs.Prelude.{ℕ, ◌+◌, ◌-◌, ◌*◌, ◌^◌, ◌/◌, min, max, Bool, nat_le, List, map}
use Rattle.std.specs.List.{fold}

-- how many events may make frames before those that were made are known to be handed out, those of them before the mark that are not, and
-- those since
pub record Account : Type 0 where
  pub most : ℕ
  pub before : ℕ
  pub since : ℕ

-- nothing is out
abbrev pub untouched : ℕ → Account
untouched most = record { most = max most 1; before = 0; since = 0 }

-- how many more may make frames
abbrev pub left_of : Account → ℕ
left_of a = a.most - (a.before + a.since)

-- as many are handed out as is worth going on for: half of all, and where all are an odd number one more
abbrev pub is_half_free : Account → Bool
is_half_free a = nat_le a.most (2 * left_of a)

abbrev pub capped : ℕ → ℕ
capped n = min n (2 ^ 32 - 1)

-- so many more made frames
abbrev pub spent : ℕ → Account → Account
spent n a = record a { since = capped (a.since + n) }

-- the mark is set behind all that made frames
abbrev pub marked : Account → Account
marked a = record a { before = capped (a.before + a.since); since = 0 }

-- what stands before the mark is handed out
abbrev pub confirmed : Account → Account
confirmed a = record a { before = 0 }

-- ---- how many events fill a ring

-- the events that fill a ring of so many frames, where each makes a frame of each of so many streams: one at least
abbrev pub room_of : ℕ × ℕ → ℕ
room_of ring = max (ring.0 / max ring.1 1) 1

-- the least of that of some rings, of each the frames and the streams; no ring holds more than 1,024 frames
abbrev pub least_room : List (ℕ × ℕ) → ℕ
least_room rings = fold min 1024 (map room_of rings)
