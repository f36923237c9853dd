-- How long a data frame is whose blocks are as long as their members' configurations say.
use Rattle.std.proofs.Common.{◌≡◌, ℕ, suc, ◌+◌, List, [], ◌∷◌, length, map, slice_get, Option, Some, None, option_map, refl, ap, ap₂, ◌∙◌, subst, length-append, arith}
use Rattle.std.specs.List.{cons_option}
use Rattle.std.specs.Int.{w16, to_be_bytes}
use Rattle.pg_wire.specs.declared.ids.PmuKey.{PmuKey}
use Rattle.pg_wire.specs.Check.{chk}
use Rattle.pg_wire.specs.Head.{Heading, front_of, frame_of}
use Rattle.pg_wire.specs.Stream.{joined}
use Rattle.pg_config.specs.Parts.{Part, data_len}
use Rattle.pg_data.specs.Pieces.{Piece}
use Rattle.pg_data.proofs.Fillers.{filler-length}
use Rattle.pg_data.proofs.Blocks.{joined-length}
use Rattle.pg_stream.specs.declared.definition.Definition.{Definition}
use Rattle.pg_align.specs.Histories.{Arrival, arrived, parts_from}
use Rattle.pg_outcfg.specs.Listing.{Listing, config_at}
use Rattle.pg_outcfg.specs.Quality.{joined_quality}
use Rattle.pg_outcfg.specs.Frames.{effective_of, block_or_filler, data_blocks, data_frame_of, data_heading, qualities_of}
use Rattle.pg_session.specs.Streams.{frame_len}
use Rattle.pg_laws.specs.Lengths.{IsLongAs}

-- what came for a member is as long as its configuration says, if it is listed and something came
abbrev pub IsLong : Option Part → Option Piece → Type 0
IsLong config None = Unit {0}
IsLong config (Some piece) = IsLongAs config piece.block

-- the same of all members, one piece or none for each
abbrev pub AreLong : Listing → List PmuKey → List (Option Piece) → Type 0
AreLong listed [] pieces = Unit {0}
AreLong listed (key ∷ keys) [] = ⊥
AreLong listed (key ∷ keys) (piece ∷ pieces) = IsLong (config_at listed key) piece × AreLong listed keys pieces

block_length : (part : Part) (piece : Option Piece) → IsLong (Some part) piece → length (block_or_filler part piece) ≡ data_len part
block_length part None is = filler-length part
block_length part (Some piece) is = is

sizes : (listed : Listing) (members : List PmuKey) (pieces : List (Option Piece)) → AreLong listed members pieces
    → map length (data_blocks listed members pieces) ≡ map data_len (effective_of listed members)
sizes listed [] [] are = refl
sizes listed [] (piece ∷ pieces) are = refl
sizes listed (key ∷ keys) [] are = absurd are
sizes listed (key ∷ keys) (piece ∷ pieces) are = by (config_at listed key) are.0 (sizes listed keys pieces are.1)
  where
    by : (o : Option Part) → IsLong o piece → map length (data_blocks listed keys pieces) ≡ map data_len (effective_of listed keys)
        → map length (cons_option (option_map (λ part. block_or_filler part piece) o) (data_blocks listed keys pieces)) ≡ map data_len (cons_option o (effective_of listed keys))
    by None is rest = rest
    by (Some part) is rest = ap₂ (λ n ns. n ∷ ns) (block_length part piece is) rest

frame_length : (h : Heading) (body : List ℕ) → length (frame_of h body) ≡ 16 + length body
frame_length h body =
    omega (arith, length-append (front_of h body) (to_be_bytes w16 (chk (front_of h body))))

pub frame-length : (d : Definition) (slot : ℕ) (listed : Listing) (pieces : List (Option Piece)) → AreLong listed d.members pieces
    → length (data_frame_of d slot listed pieces) ≡ frame_len listed d.members
frame-length d slot listed pieces are =
    frame_length (data_heading d slot (joined_quality (qualities_of pieces))) (joined (data_blocks listed d.members pieces))
    ∙ ap (λ n. 16 + n) (joined-length (effective_of listed d.members) (data_blocks listed d.members pieces) (sizes listed d.members pieces are))

-- the configuration of the member at a place
abbrev pub part_of : Listing → Option PmuKey → Option Part
part_of listed None = None
part_of listed (Some key) = config_at listed key

-- what came for a slot is so, if it is so at each place
pub long-parts : (listed : Listing) (members : List PmuKey) (arrivals : List (Arrival Piece)) (slot from : ℕ)
    → ((k : ℕ) → IsLong (part_of listed (slice_get members k)) (arrived arrivals slot (from + k)))
    → AreLong listed members (parts_from arrivals slot from (length members))
long-parts listed [] arrivals slot from each = tt
long-parts listed (key ∷ keys) arrivals slot from each =
    let here : from + 0 ≡ from = omega arith in (
      subst (λ place. IsLong (config_at listed key) (arrived arrivals slot place)) here (each 0),
      long-parts listed keys arrivals slot (from + 1) (λ k.
          let next : from + suc k ≡ (from + 1) + k = omega arith in
          subst (λ place. IsLong (part_of listed (slice_get keys k)) (arrived arrivals slot place)) next (each (suc k))),
    )
