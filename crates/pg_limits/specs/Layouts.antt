-- Layouts of a stream that no reader takes for each other.
use Rattle.std.specs.Prelude.{ℕ, ◌+◌, ◌-◌, Bool, true, ◌&&◌, ◌==◌, nat_lt, not, List, [], ◌∷◌, length, take}
use Rattle.std.specs.List.{list_all}

-- no two of these are the same
abbrev pub are_apart : List ℕ → Bool
are_apart [] = true
are_apart (len ∷ others) = list_all (λ other. not (other == len)) others && are_apart others

-- of a stream's layouts, the last of which have data frames of these lengths, the newest first, no two from number `floor` to number
-- `newest` are as long as each other; where the lengths do not go back as far, two may be
abbrev pub are_unlike : List ℕ → ℕ → ℕ → Bool
are_unlike lengths floor newest = nat_lt (newest - floor) (length lengths) && are_apart (take (newest - floor + 1) lengths)
