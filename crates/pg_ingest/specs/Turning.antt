-- How the parts of a turn end.
use Rattle.std.specs.Prelude.{◌≡◌, ◌≢◌, ◌≤◌, ℕ, true, false, List, [], ◌∷◌, map, length, Option, Some, None}
use Rattle.pg_wire.specs.declared.refusal.Refusal.{Refusal}
use Rattle.pg_command.specs.declared.word.Word.{Word}
use Rattle.pg_ingest.specs.declared.run.End.{End}
use Rattle.pg_ingest.specs.Items.{Item, break_in}
use Rattle.pg_ingest.specs.Shown.{LinkPast, IsAllTold}
use Rattle.pg_ingest.specs.Runs.{Step, begins, posts, after_steps}
use Rattle.pg_ingest.specs.Ends.{is_cut, pieces_in, LastRead, break_after, Why}

-- How a turn ends, the call going on or not.
abbrev pub EndsTurn : Option End → List ℕ → Option (List ℕ) → LinkPast → List Step → Type 0
EndsTurn None left r past steps =
    IsAllTold (after_steps past steps) × ((piece : List ℕ) × (piece ≢ []) × (pieces_in steps ≡ piece ∷ []) × LastRead piece steps) × (break_after past steps ≡ None)
EndsTurn (Some end) left r past steps =
    IsAllTold (after_steps past steps) × (length (pieces_in steps) ≤ 1) × (is_cut end ≡ false → (piece : List ℕ) × LastRead piece steps)
    × Why end left r past steps × (is_cut end ≡ true → break_in past.stream ≡ None → break_after past steps ≡ None)

-- nothing was done but that commands were begun
abbrev pub OnlyBegins : List Step → Type 0
OnlyBegins steps = (words : List Word) × (steps ≡ map begins words)

-- nothing was done but that all frames were told, and this break shows behind them
abbrev pub TellsAll : Option Refusal → LinkPast → List Step → Type 0
TellsAll broken past steps =
    ((items : List Item) × (steps ≡ map posts items)) × IsAllTold (after_steps past steps) × (break_after past steps ≡ broken)
