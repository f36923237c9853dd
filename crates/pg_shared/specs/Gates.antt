-- What a gate that holds a seat has posted.
use Rattle.std.specs.Prelude.{◌≡◌, ℕ, List, [], ◌∷◌, Option, Some, None, slice_get}
use Rattle.std.specs.List.{flat_map}
use Rattle.atomic_table.specs.Seated.{TableId}
use Rattle.pg_turn.specs.Known.{Known}
use Rattle.pg_gateway.specs.declared.event.Event.{Event}
use Rattle.pg_gateway.specs.declared.event.Reply.{Reply}
use Rattle.pg_gateway.specs.Histories.{said}
use Rattle.pg_gateway.specs.Posting.{Posted}
use Rattle.pg_shared.specs.Sharing.{Call}

abbrev pub said_by : Option Call → List Posted
said_by None = []
said_by (Some call) = said call ∷ []

-- what the calls at these places of a history say
abbrev pub said_at : List Call → List ℕ → List Posted
said_at history places = flat_map (λ place. said_by (slice_get history place)) places

-- ---- only the gate's own model uses these

-- the seat that is held, or one that knows nothing
abbrev pub seat_in : TableId → Option (Known Event Reply) → Known Event Reply
seat_in table None = record { table = table; seen = []; own = [] }
seat_in table (Some seat) = seat

-- A seat of this gateway is held.
abbrev pub IsHeld : TableId → Option (Known Event Reply) → Type 0
IsHeld table None = ⊥
IsHeld table (Some seat) = seat.table ≡ table
