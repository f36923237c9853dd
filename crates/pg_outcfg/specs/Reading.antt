-- What a stream's frames tell whoever reads them by the standard.
use Rattle.std.specs.Prelude.{◌≡◌, ℕ, ◌<◌, ◌^◌, List, [], ◌∷◌, Option, Some, None, length, map, Ok, slice_index, slice_index_or}
use Rattle.std.specs.List.{AllByRecursion}
use Rattle.pg_wire.specs.declared.ids.PmuKey.{PmuKey}
use Rattle.pg_wire.specs.declared.kind.Kind.{Kind}
use Rattle.pg_wire.specs.Head.{IsFrame}
use Rattle.pg_wire.specs.Stream.{joined}
use Rattle.pg_config.specs.Parts.{Part, IsPart, data_len}
use Rattle.pg_config.specs.Reading.{config_of}
use Rattle.pg_config.specs.Writing.{announced_with, written_part}
use Rattle.pg_data.specs.Measurements.{Measurement, block_of}
use Rattle.pg_data.specs.Reading.{IsDataFrame, data_of}
use Rattle.pg_data.specs.Pieces.{Piece}
use Rattle.pg_stream.specs.declared.definition.Definition.{Definition}
use Rattle.pg_stream.specs.Limits.{IsWithinLimits}
use Rattle.pg_stream.specs.Slots.{stamp_at}
use Rattle.pg_outcfg.specs.Listing.{Listing, config_at}
use Rattle.pg_outcfg.specs.Quality.{joined_quality}
use Rattle.pg_outcfg.specs.Frames.{effective_of, data_blocks, qualities_of}

-- a configuration that its reader checked, of bytes
pub record IsTold (p : Part) : Type 0 where
  pub part : IsPart p
  pub bytes : (i : ℕ) → slice_index p.block i < 2 ^ 8

-- a definition within its limits, whose number fits IDCODE, and configurations that were read
pub record CanTell (d : Definition) (listed : Listing) : Type 0 where
  pub limits : IsWithinLimits d
  pub stream : d.stream < 2 ^ 16
  pub each : AllByRecursion (λ e. IsTold e.1) listed

-- these PMUs as the stream tells of them: at its resolution and rate, with its count as CFGCNT
abbrev pub told_parts : Definition → ℕ → List Part → List Part
told_parts d count parts = map (written_part d.base d.rate count) parts

-- The frame is read as a configuration of the stream with just these PMUs.
pub record TellsConfig (frame : List ℕ) (kind : Kind) (d : Definition) (count : ℕ) (parts : List Part) : Type 0 where
  pub whole : IsFrame frame
  pub read : config_of frame ≡ Ok (announced_with kind d.stream (told_parts d count parts))

-- what a slot's frame says, by the configuration that the stream's CFG-2 tells
abbrev pub told_measurement : Definition → ℕ → ℕ → Listing → List (Option Piece) → Measurement
told_measurement d count slot listed pieces = record {
  source = d.stream;
  soc = (stamp_at d.rate d.base slot).0;
  quality = joined_quality (qualities_of pieces);
  frac = (stamp_at d.rate d.base slot).1;
  config = record { source = d.stream; parts = told_parts d count (effective_of listed d.members) };
  body = joined (data_blocks listed d.members pieces);
}

-- The frame is read as this measurement, whose data blocks are these.
pub record TellsData (frame : List ℕ) (m : Measurement) (blocks : List (List ℕ)) : Type 0 where
  pub whole : IsDataFrame frame
  pub read : data_of m.config frame ≡ Ok m
  pub each : (i : ℕ) → block_of m i ≡ slice_index_or blocks i []

-- what came for a member is a data block of its configuration: as long as that says, of bytes
abbrev pub IsBlockFor : Option Part → Option Piece → Type 0
IsBlockFor None piece = Unit {0}
IsBlockFor (Some part) None = Unit {0}
IsBlockFor (Some part) (Some piece) = (length piece.block ≡ data_len part) × ((i : ℕ) → slice_index piece.block i < 2 ^ 8)

-- the same of all members, one piece or none for each
abbrev pub AreBlocks : Listing → List PmuKey → List (Option Piece) → Type 0
AreBlocks listed [] [] = Unit {0}
AreBlocks listed [] (piece ∷ pieces) = ⊥
AreBlocks listed (key ∷ keys) [] = ⊥
AreBlocks listed (key ∷ keys) (piece ∷ pieces) = IsBlockFor (config_at listed key) piece × AreBlocks listed keys pieces
