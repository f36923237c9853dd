-- The copies that an event asks of a subscriber: of blocks for each of its streams that is on, of configurations that are new to it.
use Rattle.std.specs.Prelude.{◌&&◌, ◌++◌, ℕ, not, nat_lt, List, [], ◌∷◌, length, map, Option, Some, None, if◌then◌else◌}
use Rattle.pg_wire.specs.declared.ids.PmuKey.{PmuKey}
use Rattle.pg_config.specs.Parts.{Part}
use Rattle.pg_entitle.specs.Grants.{has_key}
use Rattle.pg_data.specs.Pieces.{Piece}
use Rattle.pg_align.specs.Slots.{Aligned}
use Rattle.pg_session.specs.Events.{Sample}
use Rattle.pg_session.specs.Streams.{StreamOf, PlacedBlock, placed}

abbrev pub piece_of_placed : PlacedBlock → Piece
piece_of_placed p = p.piece

-- the copies that a stream asks for: of each block that is a member's, where it is on
abbrev pub wanted_of : StreamOf (Aligned Piece) → ℕ → List Sample → List Piece
wanted_of s quality samples = if s.slots.is_on then map piece_of_placed (placed s.definition.members quality samples) else []

-- the copies that all streams ask for, in their order
abbrev pub all_wanted : List (StreamOf (Aligned Piece)) → ℕ → List Sample → List Piece
all_wanted [] quality samples = []
all_wanted (s ∷ streams) quality samples = wanted_of s quality samples ++ all_wanted streams quality samples

-- the copies that a grant asks for: of what the PMU has announced, where it is granted anew
abbrev pub granted_wanted : List PmuKey → PmuKey → Option Part → List Part
granted_wanted grants key None = []
granted_wanted grants key (Some config) = if not (has_key grants key) && nat_lt (length grants) 32 then config ∷ [] else []
