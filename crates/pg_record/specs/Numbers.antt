-- Numbers at the start of bytes, the highest byte first.
use Rattle.std.specs.Prelude.{ℕ, List, [], ◌∷◌, length, take, drop, Option, Some, None, nat_lt, if◌then◌else◌}
use Rattle.std.specs.Int.{w16, w32, w64, from_be_bytes}

abbrev pub one_in : List ℕ → Option (ℕ × List ℕ)
one_in [] = None
one_in (byte ∷ bytes) = Some (byte, bytes)

abbrev pub two_in : List ℕ → Option (ℕ × List ℕ)
two_in bytes = if nat_lt (length bytes) 2 then None else Some (from_be_bytes w16 (take 2 bytes), drop 2 bytes)

abbrev pub four_in : List ℕ → Option (ℕ × List ℕ)
four_in bytes = if nat_lt (length bytes) 4 then None else Some (from_be_bytes w32 (take 4 bytes), drop 4 bytes)

abbrev pub eight_in : List ℕ → Option (ℕ × List ℕ)
eight_in bytes = if nat_lt (length bytes) 8 then None else Some (from_be_bytes w64 (take 8 bytes), drop 8 bytes)
