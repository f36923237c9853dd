-- The streams that commands started or stopped: eight places, each with a stream and whether the last of its commands started it. Stream 0 is
-- none, and stands in each place that is free.
use Rattle.std.specs.Prelude.{ℕ, ◌==◌, Bool, false, ◌||◌, List, get_or, slice_set, replicate, Option, None, option_map, option_and_then, slice_get, if◌then◌else◌}
use Rattle.std.specs.List.{find as first, position}
use Rattle.std.specs.Option.{option_map_or}

abbrev pub Switched : Type 0
Switched = List (ℕ × Bool)

abbrev pub none : Switched
none = replicate 8 (0, false)

abbrev pub is_empty : Switched → Bool
is_empty s = (get_or s 0 (0, false)).0 == 0

-- the first place that is this stream's or free
abbrev pub place_for : ℕ → Switched → Option ℕ
place_for stream s = position (λ it. it.0 == stream || it.0 == 0) s

-- a command started a stream, or stopped it; where no place is left it is left out
abbrev pub switched : ℕ → Bool → Switched → Switched
switched stream is_on s = option_map_or (λ place. slice_set s place (stream, is_on)) (place_for stream s) s

abbrev pub find_named : ℕ → Switched → Option Bool
find_named stream s = option_map (λ it. it.1) (first (λ it. it.0 == stream) s)

-- whether the last command of a stream started it; none where it has none
abbrev pub find : ℕ → Switched → Option Bool
find stream s = if stream == 0 then None else find_named stream s

-- the stream at a place, and whether it is on
abbrev pub named : Option (ℕ × Bool) → Option (ℕ × Bool)
named it = option_and_then (λ named. if named.0 == 0 then None else it) it

abbrev pub at : ℕ → Switched → Option (ℕ × Bool)
at place s = named (slice_get s place)
