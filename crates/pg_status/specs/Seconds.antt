-- What a subscriber was handed and what it lost, second by second.
use Rattle.std.specs.Prelude.{ℕ, List, nat_le, ◌-◌, if◌then◌else◌}
use Rattle.pg_status.specs.declared.history.Frames.{Frames}

-- how much a count has grown; one that is smaller than before has begun anew
abbrev pub growth : ℕ → ℕ → ℕ
growth before total = (if nat_le before total then total - before else total)

-- the frames of a second, by the counts before and after it
abbrev pub frames_since : Frames → Frames → Frames
frames_since before total =
    record { handed = growth before.handed total.handed; dropped = growth before.dropped total.dropped }

-- the counts as they were told last, and the seconds that are remembered, the latest one last
pub record Remembered : Type 0 where
  pub before : Frames
  pub seconds : List Frames
