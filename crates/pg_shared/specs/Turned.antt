-- Turns of a session's loop, before it hangs up.
use Rattle.std.specs.Prelude.{◌≡◌, ℕ, Bool, true, false, List, [], ◌∷◌, ◌++◌, Option, Some, None}
use Rattle.std.specs.List.{flat_map}
use Rattle.std.specs.Io.KnownBytes.{Appends}
use Rattle.pg_session.specs.Commands.{Hearing, Item, items_of, ShowsHearing}
use Rattle.pg_gateway.specs.GatewayEvents.{Answer}
use Rattle.pg_gateway.specs.Posting.{Posted, Notes}
use Rattle.pg_ingest.specs.declared.run.End.{End}
use Rattle.pg_ingest.specs.declared.run.End.TheVariants.{Closed, Quiet, Stalled, Fault}
use Rattle.pg_shared.specs.Serving.{drains, hangs_up, Call, posted_by, command_in, Doing, read_by, call_by, due_by, InOrder, has_wait, WaitsAt, RanFrom, HasNoHangup, IsLast}

-- Whatever the session was fed, it gave all its items.
abbrev pub HasGivenAll : Hearing → Type 0
HasGivenAll v = (stream : List ℕ) (given : List Item) → ShowsHearing v stream given → given ≡ items_of stream

-- Of what was left a part was written, and the others are left.
abbrev pub Writes : List ℕ → List ℕ → Option (List ℕ) → Option (List ℕ) → Type 0
Writes left left' w w' = (out : List ℕ) × Appends w w' out × (out ++ left' ≡ left)

-- Where turns end as Quiet, their last post is a drain.
abbrev pub DrainsLast : Option End → List Call → Type 0
DrainsLast None calls = Unit {0}
DrainsLast (Some Quiet) calls = IsLast drains calls
DrainsLast (Some Closed) calls = Unit {0}
DrainsLast (Some Stalled) calls = Unit {0}
DrainsLast (Some (Fault n)) calls = Unit {0}

-- whether a drain is due after these
abbrev pub due_after : Bool → List Doing → Bool
due_after due [] = due
due_after due (doing ∷ doings) = due_after (due_by due doing) doings

-- some turns, and how they ended, if they did: a drain was due or not before and after, and it was found or not that the reader
-- would block
pub record TurnedFrom (end : Option End) (due due' waited : Bool) (stream : List ℕ) (given : List Item) (v v' : Hearing)
    (r r' w w' : Option (List ℕ)) (p p' : Option (List Posted)) : Type 0 where
  pub ran : RanFrom stream given v v' r r' w w' p p'
  pub stays : HasNoHangup ran.calls
  pub last : DrainsLast end ran.calls
  pub doings : List Doing
  pub read : flat_map read_by doings ≡ ran.bytes
  pub posted : flat_map call_by doings ≡ ran.calls
  pub order : InOrder due stream (flat_map command_in given) doings
  pub due_then : due_after due doings ≡ due'
  pub waits_so : has_wait doings ≡ waited

abbrev pub Turned : Option End → Bool → Bool → Bool → Hearing → Hearing → Option (List ℕ) → Option (List ℕ) → Option (List ℕ) → Option (List ℕ)
    → Option (List Posted) → Option (List Posted) → Type 0
Turned end due due' waited v v' r r' w w' p p' =
    (stream : List ℕ) (given : List Item) → ShowsHearing v stream given → TurnedFrom end due due' waited stream given v v' r r' w w' p p'

-- Behind whole turns no drain is due, and none of them found that the reader would block.
abbrev pub EndsSo : Option End → Bool → Bool → Type 0
EndsSo None due waited = (due ≡ false) × (waited ≡ false)
EndsSo (Some end) due waited = WaitsAt end waited

-- turns that begin where no drain is due
abbrev pub TurnedTo : Option End → Hearing → Hearing → Option (List ℕ) → Option (List ℕ) → Option (List ℕ) → Option (List ℕ)
    → Option (List Posted) → Option (List Posted) → Type 0
TurnedTo end v v' r r' w w' p p' = (due : Bool) × (waited : Bool) × EndsSo end due waited × Turned end false due waited v v' r r' w w' p p'

-- the reader has ended
abbrev pub is_closed : Option End → Bool
is_closed None = false
is_closed (Some Closed) = true
is_closed (Some Quiet) = false
is_closed (Some Stalled) = false
is_closed (Some (Fault n)) = false

-- a read failed
abbrev pub has_failed : Option End → Bool
has_failed None = false
has_failed (Some Closed) = false
has_failed (Some Quiet) = false
has_failed (Some Stalled) = false
has_failed (Some (Fault n)) = true

-- the reader would block
abbrev pub is_quiet : Option End → Bool
is_quiet None = false
is_quiet (Some Quiet) = true
is_quiet (Some Closed) = false
is_quiet (Some Stalled) = false
is_quiet (Some (Fault n)) = false

-- A post hangs up.
abbrev pub HangsUp : Hearing → Option (List Posted) → Option (List Posted) → Type 0
HangsUp v p p' = (a : Answer) × Notes p p' (posted_by v (hangs_up, a) ∷ [])
