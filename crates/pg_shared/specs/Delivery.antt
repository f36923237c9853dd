-- End to end: what a subscriber's socket is given is what a private gateway hands out.
use Rattle.std.specs.Prelude.{◌≡◌, ◌≢◌, ◌⊎◌, ℕ, List, [], ◌∷◌, ◌++◌, length, Option, None}
use Rattle.std.specs.List.{flat_map}
use Rattle.std.specs.Io.KnownBytes.{Appends, Consumes}
use Rattle.pg_turn.specs.Known.{Known}
use Rattle.pg_command.specs.declared.command.Command.{Command}
use Rattle.pg_session.specs.Events.{connect, hangup, command, drain}
use Rattle.pg_session.specs.Commands.{Hearing, Item, items_of, ShowsHearing}
use Rattle.pg_gateway.specs.declared.event.Event.{Event}
use Rattle.pg_gateway.specs.declared.event.Reply.{Reply}
use Rattle.pg_gateway.specs.GatewayEvents.{GatewayEvent, asks}
use Rattle.pg_gateway.specs.State.{opening}
use Rattle.pg_gateway.specs.Posting.{Posted}
use Rattle.pg_gateway.specs.Laws.{after, events_of, answers_of}
use Rattle.pg_gateway.specs.Views.{Handed, private_run, view, handed_in, AllLossless}
use Rattle.pg_shared.specs.Sharing.{Call, history_of}
use Rattle.pg_shared.specs.Serving.{command_in}
use Rattle.pg_shared.specs.Onward.{Piece, calls_in, own_in, places_in}

-- the bytes of all that was handed out
abbrev pub bytes_of : List Handed → List ℕ
bytes_of all = flat_map (λ (handed : Handed). handed.0) all

abbrev pub events_in : List Call → List GatewayEvent
events_in calls = events_of (history_of calls)

-- The private gateway of u has seen its view of the calls before: the bytes that it hands out on its view of the calls since
abbrev pub private_bytes : ℕ → List Call → List Call → List ℕ
private_bytes u before since =
    bytes_of (handed_in (private_run None (view u opening (events_in before))) (view u (after (events_in before)) (events_in since)))

-- None of these posts is a drain of u.
abbrev pub NoneDrains : ℕ → List Posted → Type 0
NoneDrains u [] = Unit {0}
NoneDrains u (post ∷ posts) = ((size : ℕ) → post.0 ≢ asks u (drain size)) × NoneDrains u posts

-- u is drained by the seat's own calls alone.
abbrev pub OwnDrains : ℕ → List Piece → Type 0
OwnDrains u [] = Unit {0}
OwnDrains u (piece ∷ pieces) = NoneDrains u (history_of piece.0) × OwnDrains u pieces

-- While the seat went on from v to v', bytes were written for the subscriber. Where no answer of the history tells a loss or
-- want of memory, and none but this seat drained the subscriber in the meantime: what was written, followed by what is left to
-- write, is what had been left, followed by what the private gateway of its view of the history hands out in the meantime.
pub record Delivers (u : ℕ) (v v' : Known Event Reply) (left left' : List ℕ) (w w' : Option (List ℕ)) : Type 0 where
  pub since : List Piece
  pub seen : v'.seen ≡ v.seen ++ calls_in since
  pub own : v'.own ≡ v.own ++ places_in (length v.seen) since
  pub out : List ℕ
  pub wrote : Appends w w' out
  pub bytes : AllLossless (answers_of (history_of v'.seen)) → OwnDrains u since
      → out ++ left' ≡ left ++ private_bytes u v.seen (calls_in since)

-- ---- and of the commands

abbrev pub IsNoCommand : ℕ → Posted → Type 0
IsNoCommand u post = (stream word : ℕ) → post.0 ≢ asks u (command stream word)

abbrev pub NoneCommands : ℕ → List Posted → Type 0
NoneCommands u [] = Unit {0}
NoneCommands u (post ∷ posts) = IsNoCommand u post × NoneCommands u posts

-- u is commanded by the seat's own calls alone.
abbrev pub OwnCommands : ℕ → List Piece → Type 0
OwnCommands u [] = Unit {0}
OwnCommands u (piece ∷ pieces) = NoneCommands u (history_of piece.0) × OwnCommands u pieces

-- The commands of u among these posts are just these, in order.
abbrev pub AreCommands : ℕ → List Posted → List Command → Type 0
AreCommands u [] [] = Unit {0}
AreCommands u [] (c ∷ cs) = ⊥
AreCommands u (post ∷ posts) [] = IsNoCommand u post × AreCommands u posts []
AreCommands u (post ∷ posts) (c ∷ cs) =
    ((post.0 ≡ asks u (command c.stream c.word)) × AreCommands u posts cs) ⊎ (IsNoCommand u post × AreCommands u posts (c ∷ cs))

-- besides commands: that the subscriber connects, is drained, or hangs up
abbrev pub IsBesides : ℕ → Posted → Type 0
IsBesides u post = (post.0 ≡ asks u connect) ⊎ ((size : ℕ) × (post.0 ≡ asks u (drain size))) ⊎ (post.0 ≡ asks u hangup)

-- These posts are just these commands of u, in order, and besides them nothing but that u connects, is drained and hangs up.
abbrev pub ArePassed : ℕ → List Posted → List Command → Type 0
ArePassed u [] [] = Unit {0}
ArePassed u [] (c ∷ cs) = ⊥
ArePassed u (post ∷ posts) [] = IsBesides u post × ArePassed u posts []
ArePassed u (post ∷ posts) (c ∷ cs) =
    ((post.0 ≡ asks u (command c.stream c.word)) × ArePassed u posts cs) ⊎ (IsBesides u post × ArePassed u posts (c ∷ cs))

-- While the seat went on, its own places in the history were just these commands, besides that the subscriber connects, is
-- drained and hangs up. So the subscriber's part of the history had just these commands, where none but this seat gave it any.
pub record Obeys (u : ℕ) (v v' : Known Event Reply) (commands : List Command) : Type 0 where
  pub since : List Piece
  pub seen : v'.seen ≡ v.seen ++ calls_in since
  pub own : v'.own ≡ v.own ++ places_in (length v.seen) since
  pub passed : ArePassed u (own_in since) commands
  pub given : OwnCommands u since → AreCommands u (history_of (calls_in since)) commands

-- A session that had been fed this stream and had given these items is fed the bytes that are read, and posts the commands of
-- their frames, all of them, each once and in order.
pub record Hears (stream : List ℕ) (given : List Item) (v v' : Hearing) (s s' : Known Event Reply) (r r' : Option (List ℕ)) : Type 0 where
  pub bytes : List ℕ
  pub items : List Item
  pub sub : v'.sub ≡ v.sub
  pub read : Consumes r r' bytes
  pub shows : ShowsHearing v' (stream ++ bytes) (given ++ items)
  pub all : given ++ items ≡ items_of (stream ++ bytes)
  pub obeys : Obeys v.sub s s' (flat_map command_in items)

-- All that a session heard since it was new, in however many calls: it was fed the bytes that were read, and the commands of all
-- their frames were posted, each once and in order.
pub record HasHeard (u : ℕ) (v : Hearing) (s s' : Known Event Reply) (r r' : Option (List ℕ)) : Type 0 where
  pub sub : v.sub ≡ u
  pub bytes : List ℕ
  pub read : Consumes r r' bytes
  pub shows : ShowsHearing v bytes (items_of bytes)
  pub obeys : Obeys u s s' (flat_map command_in (items_of bytes))
