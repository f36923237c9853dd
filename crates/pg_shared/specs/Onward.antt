-- How a seat of a shared gateway goes on from one value to a later one, whatever was posted at it.
use Rattle.std.specs.Prelude.{◌≡◌, ◌⊎◌, ℕ, ◌+◌, suc, List, [], ◌∷◌, ◌++◌, length, map}
use Rattle.pg_turn.specs.Known.{Known}
use Rattle.pg_gateway.specs.declared.event.Event.{Event}
use Rattle.pg_gateway.specs.declared.event.Reply.{Reply}
use Rattle.pg_gateway.specs.State.{opening}
use Rattle.pg_gateway.specs.Histories.{said, Legal}
use Rattle.pg_gateway.specs.Posting.{Posted}
use Rattle.pg_shared.specs.Sharing.{Call, AreAnswered, history_of}
use Rattle.pg_shared.specs.Gates.{said_at}

-- calls of others, and then one of the seat's own
abbrev pub Piece : Type 0
Piece = List Call × Call

-- all calls of these pieces
abbrev pub calls_in : List Piece → List Call
calls_in [] = []
calls_in (piece ∷ pieces) = piece.0 ++ piece.1 ∷ calls_in pieces

-- what the seat's own calls say
abbrev pub own_in : List Piece → List Posted
own_in pieces = map (λ piece. said piece.1) pieces

-- the places of the seat's own calls, where so many calls came before
abbrev pub places_in : ℕ → List Piece → List ℕ
places_in before [] = []
places_in before (piece ∷ pieces) = (before + length piece.0) ∷ places_in (suc (before + length piece.0)) pieces

-- The seat made some calls, or none, and has seen what others did up to the last of them: the history that it had seen begins
-- the one that it has seen now, and that is a legal one if it made a call.
pub record GoesOn (v w : Known Event Reply) : Type 0 where
  pub table : w.table ≡ v.table
  pub pieces : List Piece
  pub seen : w.seen ≡ v.seen ++ calls_in pieces
  pub own : w.own ≡ v.own ++ places_in (length v.seen) pieces
  pub said : said_at w.seen w.own ≡ said_at v.seen v.own ++ own_in pieces
  pub answered : AreAnswered (calls_in pieces)
  pub legal : (pieces ≡ []) ⊎ Legal opening (history_of w.seen)
