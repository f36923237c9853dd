-- What is left of a check that stands some bytes up, by four bits of it at a time.
use Rattle.std.specs.Prelude.{ℕ, ◌+◌, ◌*◌, ◌^◌, ◌<◌, List, [], slice_index_or}
use Rattle.pg_wire.specs.Check.{IsRemainder}

-- the j-th list has what is left of each number of four bits, 4 * j bits and so many bytes up
abbrev pub AreQuarters : ℕ → List (List ℕ) → Type 0
AreQuarters bytes quarters =
    (j : ℕ) → j < 4 → (t : ℕ) → t < 16 → IsRemainder (t * 2 ^ (4 * j + 8 * bytes)) (slice_index_or (slice_index_or quarters j []) t 0)
