-- Two sessions: of two services, where a subscriber sees the same in both, and of one service, in two threads at once.
use Rattle.std.specs.Prelude.{◌≡◌, ℕ, List, [], ◌++◌, length, Option}
use Rattle.std.specs.Io.KnownBytes.{Appends}
use Rattle.pg_turn.specs.Known.{Known}
use Rattle.pg_session.specs.Commands.{Hearing}
use Rattle.pg_gateway.specs.declared.event.Event.{Event}
use Rattle.pg_gateway.specs.declared.event.Reply.{Reply}
use Rattle.pg_gateway.specs.State.{opening}
use Rattle.pg_gateway.specs.Laws.{after, answers_of}
use Rattle.pg_gateway.specs.Views.{view, AllLossless}
use Rattle.pg_shared.specs.Sharing.{Call, history_of}
use Rattle.pg_shared.specs.Onward.{Piece, calls_in, places_in}
use Rattle.pg_shared.specs.Delivery.{events_in, private_bytes, NoneDrains, OwnDrains, Delivers, HasHeard}

-- u sees the same in two services: of the calls before, and of the calls since.
abbrev pub SeesAlike : ℕ → List Call → List Call → List Call → List Call → Type 0
SeesAlike u before since other_before other_since =
    (view u opening (events_in before) ≡ view u opening (events_in other_before))
    × (view u (after (events_in before)) (events_in since) ≡ view u (after (events_in other_before)) (events_in other_since))

-- In each of two services a seat went on, and bytes were written for u. Where no answer of either history tells a loss or want
-- of memory, in each none but this seat drained u in the meantime, and u sees the same in both, both were given the same bytes,
-- those that are left to write among them.
pub record DeliverAlike (u : ℕ) (s s' t t' : Known Event Reply) (left left' : List ℕ) (w w' x x' : Option (List ℕ)) : Type 0 where
  pub one : Delivers u s s' [] left w w'
  pub other : Delivers u t t' [] left' x x'
  pub alike : AllLossless (answers_of (history_of s'.seen)) → OwnDrains u one.since
      → AllLossless (answers_of (history_of t'.seen)) → OwnDrains u other.since
      → SeesAlike u s.seen (calls_in one.since) t.seen (calls_in other.since) → one.out ++ left ≡ other.out ++ left'

-- The same of two deliveries, where u's views of the two histories are equal: those of the calls before, and those of all calls.
abbrev pub DecidedByViews : (u : ℕ) (s s' t t' : Known Event Reply) (left left' : List ℕ) (w w' x x' : Option (List ℕ))
    → Delivers u s s' [] left w w' → Delivers u t t' [] left' x x' → Type 0
DecidedByViews u s s' t t' left left' w w' x x' one other =
    AllLossless (answers_of (history_of s'.seen)) → OwnDrains u one.since
    → AllLossless (answers_of (history_of t'.seen)) → OwnDrains u other.since
    → view u opening (events_in s.seen) ≡ view u opening (events_in t.seen)
    → view u opening (events_in s'.seen) ≡ view u opening (events_in t'.seen) → one.out ++ left ≡ other.out ++ left'

-- While a seat went on from v to v', bytes were written for u; behind its last call the history went on by others. Where no
-- answer of the whole history tells a loss or want of memory, and none but this seat drained u: what was written, followed by
-- what is left to write, is what had been left, followed by what the private gateway of u's view of the history hands out.
pub record DeliversIn (history : List Call) (u : ℕ) (v v' : Known Event Reply) (left left' : List ℕ) (w w' : Option (List ℕ)) : Type 0 where
  pub since : List Piece
  pub rest : List Call
  pub own : v'.own ≡ v.own ++ places_in (length v.seen) since
  pub whole : history ≡ v.seen ++ (calls_in since ++ rest)
  pub out : List ℕ
  pub wrote : Appends w w' out
  pub bytes : AllLossless (answers_of (history_of history)) → OwnDrains u since → NoneDrains u (history_of rest)
      → out ++ left' ≡ left ++ private_bytes u v.seen (calls_in since ++ rest)

-- In this history a session of u was served from its beginning on: its bytes, and its commands.
pub record IsServed (history : List Call) (u : ℕ) (session : Hearing) (v v' : Known Event Reply) (r r' w w' : Option (List ℕ)) : Type 0 where
  pub delivers : DeliversIn history u v v' [] session.left w w'
  pub heard : HasHeard u session v v' r r'
