-- Data frames, as contracts see them.
use Rattle.std.specs.Prelude.{◌≡◌, ℕ, ◌+◌, ◌<◌, ◌^◌, List, [], ◌∷◌, length, take, drop, slice_index, slice_range, Bool, false, ◌==◌, ◌||◌}
use Rattle.std.specs.Int.{bit_at}
use Rattle.pg_wire.specs.Head.{Heading, HeadFits, two_at}
use Rattle.pg_config.specs.Parts.{Part, Source, IsSource, data_len, data_lens}

-- what a data frame says, and the configuration by which it is read, wherever they lie in memory
pub record Measurement : Type 0 where
  pub source : ℕ
  pub soc : ℕ
  pub quality : ℕ
  pub frac : ℕ
  pub config : Source
  pub body : List ℕ

-- the resolution of FRACSEC, which all PMUs of a source have
abbrev pub resolution_of : List Part → ℕ
resolution_of [] = 0
resolution_of (p ∷ ps) = p.base

abbrev pub resolution : Source → ℕ
resolution config = resolution_of config.parts

-- a data frame's head
abbrev pub data_head : ℕ → Measurement → Heading
data_head version m = record { kind = 0; version = version; id = m.source; soc = m.soc; quality = m.quality; frac = m.frac }

-- what its reader checked of a data frame
pub record IsMeasurement (m : Measurement) : Type 0 where
  pub config : IsSource m.config
  pub fits : HeadFits (data_head 2 m)
  pub source : m.source ≡ m.config.source
  pub fraction : m.frac < resolution m.config
  pub size : length m.body ≡ data_lens m.config.parts
  pub small : 16 + length m.body < 2 ^ 16
  pub octets : (i : ℕ) → slice_index m.body i < 2 ^ 8

-- where the data block of PMU i begins and ends among these bytes: behind the blocks of the PMUs before it
abbrev pub block_in : List Part → List ℕ → ℕ → List ℕ
block_in parts body i = slice_range body (data_lens (take i parts)) (data_lens (take (i + 1) parts))

-- the data block of PMU i
abbrev pub block_of : Measurement → ℕ → List ℕ
block_of m i = block_in m.config.parts m.body i

-- STAT, the first word of a data block
abbrev pub stat_of : Measurement → ℕ → ℕ
stat_of m i = two_at (block_of m i) 0

-- STAT's configuration change bit, bit 10, is set in one of the data blocks
abbrev pub HasChange : Measurement → Type 0
HasChange m = (i : ℕ) × (i < length m.config.parts) × (bit_at (stat_of m i) 10 ≡ 1)

-- the same as a test, from block to block
abbrev pub has_change_in : List Part → List ℕ → Bool
has_change_in [] body = false
has_change_in (p ∷ ps) body = bit_at (two_at body 0) 10 == 1 || has_change_in ps (drop (data_len p) body)

abbrev pub has_change : Measurement → Bool
has_change m = has_change_in m.config.parts m.body
