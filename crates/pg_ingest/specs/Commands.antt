-- The commands that a link owes its source, by looking back over what it told and what it gave. Owed.antt says the same by
-- places in the past.
use Rattle.std.specs.Prelude.{Bool, true, false, not, ◌==◌, ◌&&◌, ◌||◌, if◌then◌else◌, List, [], ◌∷◌, Option, Some, None}
use Rattle.std.specs.List.{list_any}
use Rattle.std.specs.Option.{option_map_or}
use Rattle.pg_wire.specs.declared.refusal.Refusal.TheVariants.{BadLength}
use Rattle.pg_wire.specs.Number.{number_of}
use Rattle.pg_command.specs.declared.word.Word.{Word}
use Rattle.pg_command.specs.declared.word.Word.TheVariants.{StartData, SendCfgTwo}
use Rattle.pg_command.specs.Words.{word_number}
use Rattle.pg_data.specs.Measurements.{Measurement, has_change}
use Rattle.pg_ingest.specs.Items.{Item, announces, measures, skips, rejects_config, rejects_data, passes_over}

-- what a link does, seen from outside
pub data Act : Type 0 where
  -- it tells this of the next frame
  tells : Item → Act
  -- it asks its source for something: it gives a command
  asks : Word → Act

-- what was told, in the same order
abbrev pub told_in : List Act → List Item
told_in [] = []
told_in (tells item ∷ acts) = item ∷ told_in acts
told_in (asks word ∷ acts) = told_in acts

-- the data frame that was read last, the newest item standing first
abbrev pub measured_last : List Item → Option Measurement
measured_last [] = None
measured_last (announces config ∷ before) = measured_last before
measured_last (measures m ∷ before) = Some m
measured_last (skips r ∷ before) = measured_last before
measured_last (rejects_config r ∷ before) = measured_last before
measured_last (rejects_data r ∷ before) = measured_last before
measured_last (passes_over ∷ before) = measured_last before

-- STAT bit 10 is set in the data frame that was read last
abbrev pub was_changing : List Item → Bool
was_changing before = option_map_or has_change (measured_last before) false

-- A trigger: a data frame of BadLength, or a data frame that was read and has STAT bit 10 clear where its predecessor had
-- it set.
abbrev pub is_trigger : Item → List Item → Bool
is_trigger (announces config) before = false
is_trigger (measures m) before = not (has_change m) && was_changing before
is_trigger (skips r) before = false
is_trigger (rejects_config r) before = false
is_trigger (rejects_data r) before = number_of r == number_of BadLength
is_trigger passes_over before = false

-- an answer to command 5: a CFG-2 frame, accepted or not, or a frame that was skipped
abbrev pub is_answer : Item → Bool
is_answer (announces config) = true
is_answer (measures m) = false
is_answer (skips r) = true
is_answer (rejects_config r) = true
is_answer (rejects_data r) = false
is_answer passes_over = false

-- A command 5 that fell due has had no answer since: it fell due at the newest of these items, or before it and this item is
-- no answer. At the start one falls due.
abbrev pub is_unanswered : List Item → Bool
is_unanswered [] = true
is_unanswered (item ∷ before) = is_trigger item before && not (is_unanswered before) || not (is_answer item) && is_unanswered before

-- A command 5 falls due at this item: at a trigger, unless an earlier one that fell due had no answer since.
abbrev pub config_falls_due : Item → List Item → Bool
config_falls_due item before = is_trigger item before && not (is_unanswered before)

-- command 5 is given
abbrev pub is_question : Act → Bool
is_question (tells item) = false
is_question (asks word) = word_number word == word_number SendCfgTwo

-- A command 5 fell due since one was given last: at the newest of these acts, or before it and this act gives none. At the
-- start one falls due.
abbrev pub owes_config : List Act → Bool
owes_config [] = true
owes_config (tells item ∷ before) = config_falls_due item (told_in before) || owes_config before
owes_config (asks word ∷ before) = not (is_question (asks word)) && owes_config before

-- a configuration is accepted
abbrev pub is_accepted : Item → Bool
is_accepted (announces config) = true
is_accepted (measures m) = false
is_accepted (skips r) = false
is_accepted (rejects_config r) = false
is_accepted (rejects_data r) = false
is_accepted passes_over = false

-- command 2 is given
abbrev pub is_start : Act → Bool
is_start (tells item) = false
is_start (asks word) = word_number word == word_number StartData

-- a configuration was accepted, and no command 2 was given
abbrev pub owes_start : List Act → Bool
owes_start acts = list_any is_accepted (told_in acts) && not (list_any is_start acts)

-- the command that is owed, 5 before 2
abbrev pub owed_word : List Act → Option Word
owed_word acts =
    if owes_config acts then Some SendCfgTwo else
    if owes_start acts then Some StartData else
    None
