-- What each data block of a frame adds to CHK of a frame that ends with it.
use Rattle.std.specs.Prelude.{ℕ, ◌<◌, List, length, slice_index}
use Rattle.pg_wire.specs.Check.{dividend_from, IsRemainder}
use Rattle.pg_config.specs.Parts.{Source}
use Rattle.pg_data.specs.Measurements.{block_in}

-- of each data block, what is left of it alone
abbrev pub AreAlone : Source → List ℕ → List ℕ → Type 0
AreAlone config body alone = (i : ℕ) → i < length config.parts → IsRemainder (dividend_from 0 (block_in config.parts body i)) (slice_index alone i)
