-- What a link's loop posts over a gate that holds a seat.
use Rattle.std.specs.Prelude.{◌≡◌, ℕ, List, ◌++◌, length, map, Option}
use Rattle.std.specs.List.{flat_map}
use Rattle.std.specs.Io.KnownBytes.{Consumes}
use Rattle.pg_turn.specs.Known.{Known}
use Rattle.pg_gateway.specs.declared.event.Event.{Event}
use Rattle.pg_gateway.specs.declared.event.Reply.{Reply}
use Rattle.pg_ingest.specs.Linking.{Linking}
use Rattle.pg_ingest.specs.Commands.{told_in}
use Rattle.pg_ingest.specs.Shown.{LinkPast, ShowsLink, IsAllTold}
use Rattle.pg_ingest.specs.Runs.{Step, AreSteps, after_steps, bytes_of, events_of, events_told, event_posted}
use Rattle.pg_shared.specs.Onward.{Piece, calls_in, own_in, places_in}

-- From this past the link did some steps: the seat's own places have just the events that the bytes tell which it read, each
-- once and in order, and all that it was fed is told.
pub record TellsFrom (past : LinkPast) (v' : Linking) (s s' : Known Event Reply) (r r' : Option (List ℕ)) : Type 0 where
  pub since : List Piece
  pub seen : s'.seen ≡ s.seen ++ calls_in since
  pub own : s'.own ≡ s.own ++ places_in (length s.seen) since
  pub steps : List Step
  pub are : AreSteps past steps
  pub shows : ShowsLink v' (after_steps past steps)
  pub read : Consumes r r' (flat_map bytes_of steps)
  pub events : map event_posted (own_in since) ≡ flat_map events_of steps
  pub all : IsAllTold (after_steps past steps)

-- Whatever past the link shows before, it did so from there.
abbrev pub Tells : Linking → Linking → Known Event Reply → Known Event Reply → Option (List ℕ) → Option (List ℕ) → Type 0
Tells v v' s s' r r' = (past : LinkPast) → ShowsLink v past → TellsFrom past v' s s' r r'

-- All that a link told since it was new or reset, in however many calls: it was fed the bytes that were read, all their frames
-- are told, and the seat's own places have just the events that were told, each once and in order.
pub record HasTold (source : ℕ) (v : Linking) (s s' : Known Event Reply) (r r' : Option (List ℕ)) : Type 0 where
  pub past : LinkPast
  pub shows : ShowsLink v past
  pub from : past.source ≡ source
  pub all : IsAllTold past
  pub read : Consumes r r' past.stream
  pub since : List Piece
  pub seen : s'.seen ≡ s.seen ++ calls_in since
  pub own : s'.own ≡ s.own ++ places_in (length s.seen) since
  pub events : map event_posted (own_in since) ≡ flat_map events_told (told_in past.acts)
