-- What one PMU's part of a data frame is, and that it lies in bytes of its own.
use Rattle.std.specs.Prelude.{◌≡◌, ℕ, ◌+◌, ◌<◌, List, Option, length, take, slice_get, slice_range, option_map}
use Rattle.pg_config.specs.Parts.{Part, Source, data_lens}
use Rattle.pg_data.specs.Measurements.{Measurement, block_of}

-- one PMU's part of a measurement: the frame's source, SOC, quality and numerator, its own configuration and its block
pub record Share : Type 0 where
  pub source : ℕ
  pub soc : ℕ
  pub quality : ℕ
  pub frac : ℕ
  pub config : Part
  pub block : List ℕ

abbrev pub share_of : Measurement → ℕ → Option Share
share_of m i = option_map (λ part. record { source = m.source; soc = m.soc; quality = m.quality; frac = m.frac; config = part; block = block_of m i })
    (slice_get m.config.parts i)

-- the bytes of a frame that hold IDCODE, SOC, quality and numerator
abbrev pub time_bytes : List ℕ → List ℕ
time_bytes frame = slice_range frame 4 14

-- the bytes of a frame that hold the data block of PMU i: the blocks stand behind the fourteen bytes of the head
abbrev pub own_bytes : Source → List ℕ → ℕ → List ℕ
own_bytes config frame i = slice_range frame (14 + data_lens (take i config.parts)) (14 + data_lens (take (i + 1) config.parts))

-- PMU i's block is the frame's own bytes at its place.
abbrev pub HasOwnBytes : Source → List ℕ → Measurement → Type 0
HasOwnBytes config frame m = (i : ℕ) → i < length config.parts → block_of m i ≡ own_bytes config frame i

-- Two data frames, each by its own configuration, agree on IDCODE, SOC, quality and numerator, on the configuration of
-- one PMU (the i-th of the one, the j-th of the other) and on the bytes of its block. All other bytes are free.
pub record AgreeOnOne (config other : Source) (frame another : List ℕ) (i j : ℕ) : Type 0 where
  pub time : time_bytes frame ≡ time_bytes another
  pub here : i < length config.parts
  pub there : j < length other.parts
  pub part : slice_get config.parts i ≡ slice_get other.parts j
  pub block : own_bytes config frame i ≡ own_bytes other another j
