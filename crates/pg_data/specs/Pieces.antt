-- One PMU's data block in a frame that is shared, as contracts see it.
use Rattle.std.specs.Prelude.{ℕ, List}
use Rattle.pg_data.specs.Measurements.{Measurement, block_of}

-- the frame's time quality and the PMU's own block: of the rest of the frame it shows nothing
pub record Piece : Type 0 where
  pub quality : ℕ
  pub block : List ℕ

-- what the block of PMU i shows
abbrev pub piece_of : Measurement → ℕ → Piece
piece_of m i = record { quality = m.quality; block = block_of m i }
