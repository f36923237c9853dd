-- A slot for which one frame brought the blocks of all members: for each member, in the definition's order, which of the frame's blocks
-- is its own.
use Rattle.std.specs.Prelude.{ℕ, ◌<◌, IsTrue, is_some, List, [], ◌∷◌, map, filter_map, Option, Some, None, option_map}
use Rattle.pg_wire.specs.declared.ids.PmuKey.{PmuKey}
use Rattle.pg_data.specs.Measurements.{Measurement, block_of}
use Rattle.pg_data.specs.Pieces.{Piece, piece_of}
use Rattle.pg_outcfg.specs.Listing.{Listing, config_at}

-- what the members' blocks show
abbrev pub pieces_in : Measurement → List (Option ℕ) → List (Option Piece)
pieces_in m order = map (λ place. option_map (piece_of m) place) order

-- their bytes
abbrev pub blocks_in : Measurement → List (Option ℕ) → List (List ℕ)
blocks_in m order = filter_map (λ place. option_map (block_of m) place) order

-- each member has one of the frame's n blocks
abbrev pub AreBlocks : ℕ → List (Option ℕ) → Type 0
AreBlocks n [] = Unit {0}
AreBlocks n (None ∷ order) = ⊥
AreBlocks n (Some place ∷ order) = (place < n) × AreBlocks n order

-- all members stand in the list
abbrev pub AreMembers : Listing → List PmuKey → Type 0
AreMembers listed [] = Unit {0}
AreMembers listed (key ∷ members) = IsTrue (is_some (config_at listed key)) × AreMembers listed members
