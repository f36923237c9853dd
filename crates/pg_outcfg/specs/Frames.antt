-- The output frames of a stream, each as the one spelling of its head and its body.
use Rattle.std.specs.Prelude.{ℕ, ◌+◌, ◌%◌, ◌^◌, List, Option, Some, None, zip, filter_map, option_map}
use Rattle.std.specs.Map.{values_of}
use Rattle.pg_wire.specs.declared.ids.PmuKey.{PmuKey}
use Rattle.pg_wire.specs.declared.kind.Kind.TheVariants.{Header, CfgOne, CfgTwo}
use Rattle.pg_wire.specs.Head.{Heading, frame_of}
use Rattle.pg_wire.specs.Stream.{joined}
use Rattle.pg_config.specs.Parts.{Part}
use Rattle.pg_config.specs.Writing.{reply_heading, config_frame}
use Rattle.pg_data.specs.Filler.{filler_of}
use Rattle.pg_data.specs.Pieces.{Piece}
use Rattle.pg_stream.specs.declared.definition.Definition.{Definition}
use Rattle.pg_stream.specs.Slots.{stamp_at}
use Rattle.pg_outcfg.specs.Listing.{Listing, config_at}
use Rattle.pg_outcfg.specs.Quality.{joined_quality}

-- the count of changes after one more
abbrev pub changed : ℕ → ℕ
changed count = (count + 1) % 2 ^ 16

-- The effective members: the configurations of those members that stand in the list, in the members' order.
abbrev pub effective_of : Listing → List PmuKey → List Part
effective_of listed members = filter_map (config_at listed) members

-- CFG-1: all PMUs of the list, by rising key
abbrev pub cfg1_frame : Definition → ℕ → ℕ → Listing → List ℕ
cfg1_frame d count soc listed = config_frame CfgOne d.stream soc d.base d.rate count (values_of listed)

-- CFG-2: the effective members, in the definition's order
abbrev pub cfg2_frame : Definition → ℕ → ℕ → Listing → List ℕ
cfg2_frame d count soc listed = config_frame CfgTwo d.stream soc d.base d.rate count (effective_of listed d.members)

-- the header, with the definition's text
abbrev pub header_frame : Definition → ℕ → List ℕ
header_frame d soc = frame_of (reply_heading Header d.stream soc) d.header

-- What stands for an effective member in a data frame: its block in the slot, or the filler where none came.
abbrev pub block_or_filler : Part → Option Piece → List ℕ
block_or_filler part None = filler_of part
block_or_filler part (Some piece) = piece.block

-- the same of a member and what came for it; nothing where the member is not effective
abbrev pub member_block : Listing → PmuKey × Option Piece → Option (List ℕ)
member_block listed m = option_map (λ part. block_or_filler part m.1) (config_at listed m.0)

-- the data blocks of a slot's frame, in the members' order: for each member one piece, or none
abbrev pub data_blocks : Listing → List PmuKey → List (Option Piece) → List (List ℕ)
data_blocks listed members pieces = filter_map (member_block listed) (zip members pieces)

-- the qualities of the frames that are present
abbrev pub qualities_of : List (Option Piece) → List ℕ
qualities_of pieces = filter_map (option_map (λ piece. piece.quality)) pieces

-- the head of a slot's frame: its stamp, and the joined quality
abbrev pub data_heading : Definition → ℕ → ℕ → Heading
data_heading d slot quality = record {
  kind = 0;
  version = 2;
  id = d.stream;
  soc = (stamp_at d.rate d.base slot).0;
  quality = quality;
  frac = (stamp_at d.rate d.base slot).1;
}

-- the data frame of a slot
abbrev pub data_frame_of : Definition → ℕ → Listing → List (Option Piece) → List ℕ
data_frame_of d slot listed pieces =
    frame_of (data_heading d slot (joined_quality (qualities_of pieces))) (joined (data_blocks listed d.members pieces))
