-- The stamp of a frame as its head carries it.
use Rattle.std.specs.Prelude.{ℕ, ◌+◌, ◌*◌, ◌^◌, List, ◌++◌}
use Rattle.std.specs.Int.{w32, to_be_bytes}

-- SOC, and FRACSEC: the quality, and the numerator of the fraction
abbrev pub stamp_bytes : ℕ × ℕ → ℕ → List ℕ
stamp_bytes stamp quality = to_be_bytes w32 stamp.0 ++ to_be_bytes w32 (quality * 2 ^ 24 + stamp.1)
