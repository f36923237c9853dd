-- When command 5 is unanswered, and when it is owed, said by places in the past.
use Rattle.std.specs.Prelude.{◌≡◌, true, false, List, [], ◌∷◌, ◌++◌, All}
use Rattle.pg_ingest.specs.Items.{Item}
use Rattle.pg_ingest.specs.Commands.{Act, tells, asks, told_in, is_trigger, is_answer, is_question, is_unanswered}

-- Command 5 fell due at the newest of these items: a trigger, where no earlier one is unanswered. At the start it falls due.
abbrev pub FellDue : List Item → Type 0
FellDue [] = Unit {0}
FellDue (item ∷ before) = (is_trigger item before ≡ true) × (is_unanswered before ≡ false)

-- At one of these items, the newest first, command 5 fell due, and none after it is an answer.
pub record HasUnanswered (items : List Item) : Type 0 where
  pub after : List Item
  pub upto : List Item
  pub split : items ≡ after ++ upto
  pub due : FellDue upto
  pub unanswered : All (λ item. is_answer item ≡ false) after

-- the same of acts
abbrev pub FellDueAt : List Act → Type 0
FellDueAt [] = Unit {0}
FellDueAt (tells item ∷ before) = FellDue (item ∷ told_in before)
FellDueAt (asks word ∷ before) = ⊥

-- At one of these acts, the newest first, command 5 fell due, and after it none was given.
pub record HasOwed (acts : List Act) : Type 0 where
  pub after : List Act
  pub upto : List Act
  pub split : acts ≡ after ++ upto
  pub due : FellDueAt upto
  pub ungiven : All (λ act. is_question act ≡ false) after
