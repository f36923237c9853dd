-- How a link's loop ends, and why.
use Rattle.std.specs.Prelude.{◌≡◌, ◌≢◌, ◌⊎◌, ◌≤◌, ◌<◌, ℕ, Bool, true, false, ◌==◌, List, [], ◌∷◌, ◌++◌, map, length, All, Option, Some, None}
use Rattle.std.specs.Io.KnownBytes.{IsAtEnd}
use Rattle.pg_wire.specs.declared.refusal.Refusal.{Refusal}
use Rattle.pg_wire.specs.Number.{number_of}
use Rattle.pg_ingest.specs.declared.run.End.{End}
use Rattle.pg_ingest.specs.declared.run.End.TheVariants.{Closed, Quiet, Stalled, Fault}
use Rattle.pg_ingest.specs.Items.{Item, break_in}
use Rattle.pg_ingest.specs.Shown.{LinkPast, IsAllTold}
use Rattle.pg_ingest.specs.Runs.{Step, begins, reads, posts, after_steps}

-- A write was cut short: it would have blocked, or it failed.
abbrev pub is_cut : End → Bool
is_cut Closed = false
is_cut Quiet = false
is_cut Stalled = true
is_cut (Fault n) = n == 40

-- the pieces that were read
abbrev pub pieces_in : List Step → List (List ℕ)
pieces_in [] = []
pieces_in (begins word ∷ steps) = pieces_in steps
pieces_in (reads piece ∷ steps) = piece ∷ pieces_in steps
pieces_in (posts item ∷ steps) = pieces_in steps

-- A piece that is empty is the last: the call ends where a read gave no byte.
abbrev pub AreFed : List (List ℕ) → Type 0
AreFed [] = Unit {0}
AreFed (piece ∷ pieces) = (piece ≡ [] → pieces ≡ []) × AreFed pieces

-- The last read gave this piece, and nothing was done behind it but that its frames were told. A read that fails gives an
-- empty piece.
pub record LastRead (piece : List ℕ) (steps : List Step) : Type 0 where
  pub before : List Step
  pub items : List Item
  pub is : steps ≡ before ++ reads piece ∷ map posts items

-- the break that shows behind all that was read
abbrev pub break_after : LinkPast → List Step → Option Refusal
break_after past steps = break_in (after_steps past steps).stream

-- A write is cut short only where something is left to write. The reader has ended where a read with room gave no byte.
abbrev pub Why : End → List ℕ → Option (List ℕ) → LinkPast → List Step → Type 0
Why Closed left r past steps = IsAtEnd r × LastRead [] steps × (break_after past steps ≡ None)
Why Quiet left r past steps = LastRead [] steps × (break_after past steps ≡ None)
Why Stalled left r past steps = left ≢ []
Why (Fault n) left r past steps =
    ((n ≡ 40) × (left ≢ []))
    ⊎ ((n ≡ 39) × LastRead [] steps × (break_after past steps ≡ None))
    ⊎ ((refusal : Refusal) × (n ≡ number_of refusal) × (break_after past steps ≡ Some refusal))

-- all turns were taken, and each read gave some bytes
pub record TookAll (end : End) (turns : ℕ) (past : LinkPast) (steps : List Step) : Type 0 where
  pub end_is : end ≡ Fault 39
  pub all : length (pieces_in steps) ≡ turns
  pub full : All (λ piece. piece ≢ []) (pieces_in steps)
  pub unbroken : 0 < turns → break_after past steps ≡ None

-- How a call of so many turns ends: all that was read is told, there were no more reads than turns, each but the last gave
-- some bytes, and, but where a write was cut short, no command was begun behind the last of them.
pub record Ends (end : End) (turns : ℕ) (left : List ℕ) (r : Option (List ℕ)) (past : LinkPast) (steps : List Step) : Type 0 where
  pub told : IsAllTold (after_steps past steps)
  pub few : length (pieces_in steps) ≤ turns
  pub fed : AreFed (pieces_in steps)
  pub last : is_cut end ≡ false → 0 < turns → (piece : List ℕ) × LastRead piece steps
  pub why : Why end left r past steps ⊎ TookAll end turns past steps
  -- a write is cut short before anything breaks
  pub cut : is_cut end ≡ true → break_in past.stream ≡ None → break_after past steps ≡ None
