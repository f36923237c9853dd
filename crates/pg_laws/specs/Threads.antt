-- Two threads at one shared gateway.
use Rattle.std.specs.Prelude.{◌≡◌, ◌⊎◌, ℕ, ◌+◌, ◌≤◌, [], ◌++◌}
use Rattle.pg_turn.specs.Known.{Known, times}
use Rattle.pg_turn.specs.Turns.{IsLonger}
use Rattle.pg_gateway.specs.declared.event.Event.{Event}
use Rattle.pg_gateway.specs.declared.event.Reply.{Reply}
use Rattle.pg_gateway.specs.State.{opening}
use Rattle.pg_gateway.specs.Histories.{Legal}
use Rattle.pg_shared.specs.Sharing.{history_of}

abbrev pub Seat : Type 0
Seat = Known Event Reply

-- the second seat of a split: it has seen what the first has, and made no call
abbrev pub beside : Seat → Seat
beside v = record v { own = [] }

-- Two threads went on, with the seats of one split, and then their seats were joined. There is one history, a legal one if they made
-- a call: of what the two have seen one begins the other, and the longer is what the joined seat has seen. Its own places are those
-- of both, and these are different places: each belongs to one of them.
pub record TwoThreads (before joined : Seat) (First Second : Seat → Seat → Type 0) : Type 0 where
  pub one : Seat
  pub two : Seat
  pub history : IsLonger one.seen two.seen joined.seen
  pub legal : (joined.seen ≡ before.seen) ⊎ Legal opening (history_of joined.seen)
  pub own : joined.own ≡ one.own ++ two.own
  pub apart : (place : ℕ) → times place one.own + times place two.own ≤ 1
  pub first : First before one
  pub second : Second (beside before) two
