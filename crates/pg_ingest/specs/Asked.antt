-- What a link asks its source for, by the few flags that it keeps.
use Rattle.std.specs.Prelude.{ℕ, ◌+◌, Bool, true, false, not, ◌==◌, ◌&&◌, if◌then◌else◌, List, Option, Some, None}
use Rattle.std.specs.List.{list_any}
use Rattle.pg_wire.specs.declared.refusal.Refusal.{Refusal}
use Rattle.pg_wire.specs.declared.refusal.Refusal.TheVariants.{BadLength}
use Rattle.pg_wire.specs.Number.{number_of}
use Rattle.pg_command.specs.declared.word.Word.{Word}
use Rattle.pg_command.specs.declared.word.Word.TheVariants.{StartData, SendCfgTwo}
use Rattle.pg_data.specs.Measurements.{has_change}
use Rattle.pg_ingest.specs.declared.asking.Asking.{Asking}
use Rattle.pg_ingest.specs.declared.asking.Start.{Start}
use Rattle.pg_ingest.specs.declared.asking.Start.TheVariants.{NotDue, Due, Given}
use Rattle.pg_ingest.specs.Items.{Item, announces, measures, skips, rejects_config, rejects_data, passes_over}
use Rattle.pg_ingest.specs.Commands.{Act, told_in, is_accepted, is_start, owes_config, is_unanswered, was_changing}

-- where command 2 stands, by whether a configuration was accepted and whether the command was given
abbrev pub start_by : Bool → Bool → Start
start_by accepted given = if given then Given else if accepted then Due else NotDue

-- what a link asks its source for, by its acts, the newest first
abbrev pub asking_of : List Act → Asking
asking_of acts = record {
  config = owes_config acts;
  unanswered = is_unanswered (told_in acts);
  changing = was_changing (told_in acts);
  start = start_by (list_any is_accepted (told_in acts)) (list_any is_start acts);
}

-- a configuration is asked for, unless the one asked for before has had no answer
abbrev pub asking_config : Asking → Asking
asking_config a = if a.unanswered then a else record a { config = true; unanswered = true }

-- all is asked for again, whether or not a configuration was accepted
abbrev pub asking_again : Bool → Asking → Asking
asking_again is_accepted a = record a { config = true; start = start_by is_accepted false }

abbrev pub answered : Asking → Asking
answered a = record a { unanswered = false }

abbrev pub start_after : Start → Start
start_after NotDue = Due
start_after Due = Due
start_after Given = Given

abbrev pub accepted : Asking → Asking
accepted a = record a { unanswered = false; start = start_after a.start }

abbrev pub measured : Asking → Bool → Asking
measured a changing = record (if a.changing && not changing then asking_config a else a) { changing = changing }

abbrev pub mismatched : Asking → Refusal → Asking
mismatched a r = if number_of r == number_of BadLength then asking_config a else a

abbrev pub asking_after : Asking → Item → Asking
asking_after a (announces config) = accepted a
asking_after a (measures m) = measured a (has_change m)
asking_after a (skips r) = answered a
asking_after a (rejects_config r) = answered a
asking_after a (rejects_data r) = mismatched a r
asking_after a passes_over = a

abbrev pub is_due : Start → Bool
is_due NotDue = false
is_due Due = true
is_due Given = false

abbrev pub next_word : Asking → Option Word
next_word a = if a.config then Some SendCfgTwo else if is_due a.start then Some StartData else None

-- after that command was given
abbrev pub asking_less : Asking → Asking
asking_less a = if a.config then record a { config = false } else if is_due a.start then record a { start = Given } else a

-- how many commands are owed
abbrev pub owed_count : Asking → ℕ
owed_count a = (if a.config then 1 else 0) + (if is_due a.start then 1 else 0)
