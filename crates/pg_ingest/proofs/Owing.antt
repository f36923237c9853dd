-- What a link asks for is what its past makes it owe, act after act.
use Rattle.std.proofs.Common.{◌≡◌, List, ◌∷◌, ◌++◌, Bool, true, false, not, ◌==◌, ◌&&◌, ◌||◌, if◌then◌else◌, Some, None, option_map, refl, ap, ◌∙◌}
use Rattle.std.specs.List.{list_any}
use Rattle.std.specs.Option.{option_to_list}
use Rattle.pg_wire.specs.declared.refusal.Refusal.TheVariants.{BadLength}
use Rattle.pg_wire.specs.Number.{number_of}
use Rattle.pg_command.specs.declared.word.Word.TheVariants.{StartData, SendCfgTwo}
use Rattle.pg_data.specs.Measurements.{has_change}
use Rattle.pg_ingest.specs.declared.asking.Asking.{Asking}
use Rattle.pg_ingest.specs.declared.asking.Start.{Start}
use Rattle.pg_ingest.specs.Items.{Item, announces, measures, skips, rejects_config, rejects_data, passes_over}
use Rattle.pg_ingest.specs.Commands.{Act, tells, asks, told_in, is_accepted, is_start, owes_config, is_unanswered, was_changing, owed_word}
use Rattle.pg_ingest.specs.Asked.{asking_of, asking_after, asking_config, start_by, start_after, measured, next_word, asking_less, is_due}

abbrev asking_with : Bool → Bool → Bool → Start → Asking
asking_with config unanswered changing start = record { config = config; unanswered = unanswered; changing = changing; start = start }

start-accepted : (before given : Bool) → start_after (start_by before given) ≡ start_by true given
start-accepted true true = refl
start-accepted true false = refl
start-accepted false true = refl
start-accepted false false = refl

-- a trigger asks for the configuration, unless a question is unanswered
asking-by : (trigger config unanswered changing : Bool) (start : Start)
    → (if trigger then asking_config (asking_with config unanswered changing start) else asking_with config unanswered changing start)
    ≡ asking_with (trigger && not unanswered || config) (trigger && not unanswered || unanswered) changing start
asking-by true config true changing start = refl
asking-by true config false changing start = refl
asking-by false config true changing start = refl
asking-by false config false changing start = refl

and-swaps : (a b : Bool) → a && b ≡ b && a
and-swaps true true = refl
and-swaps true false = refl
and-swaps false true = refl
and-swaps false false = refl

measured-by : (changes config unanswered changing : Bool) (start : Start)
    → measured (asking_with config unanswered changing start) changes
    ≡ asking_with ((not changes && changing) && not unanswered || config) ((not changes && changing) && not unanswered || unanswered) changes start
measured-by changes config unanswered changing start =
    ap (λ (a : Asking). record a { changing = changes }) (asking-by (changing && not changes) config unanswered changing start)
    ∙ ap (λ t. asking_with (t && not unanswered || config) (t && not unanswered || unanswered) changes start) (and-swaps changing (not changes))

-- one more item was told
pub asking_told : (past : List Act) (item : Item) → asking_after (asking_of past) item ≡ asking_of (tells item ∷ past)
asking_told past (announces config) =
    ap (asking_with (owes_config past) false (was_changing (told_in past))) (start-accepted (list_any is_accepted (told_in past)) (list_any is_start past))
asking_told past (measures m) =
    measured-by (has_change m) (owes_config past) (is_unanswered (told_in past)) (was_changing (told_in past)) (asking_of past).start
asking_told past (skips r) = refl
asking_told past (rejects_config r) = refl
asking_told past (rejects_data r) =
    asking-by (number_of r == number_of BadLength) (owes_config past) (is_unanswered (told_in past)) (was_changing (told_in past)) (asking_of past).start
asking_told past passes_over = refl

start-due : (before given : Bool) → is_due (start_by before given) ≡ before && not given
start-due true true = refl
start-due true false = refl
start-due false true = refl
start-due false false = refl

-- the word that it asks by is the one that is owed
pub word_owed : (past : List Act) → next_word (asking_of past) ≡ owed_word past
word_owed past = ap (λ due. if owes_config past then Some SendCfgTwo else if due then Some StartData else None)
    (start-due (list_any is_accepted (told_in past)) (list_any is_start past))

-- after that command was given, if any
pub asking_given : (past : List Act) → asking_less (asking_of past) ≡ asking_of (option_to_list (option_map asks (owed_word past)) ++ past)
asking_given past = by (owes_config past) (list_any is_accepted (told_in past)) (list_any is_start past) refl refl refl
  where
    by : (config before given : Bool) → owes_config past ≡ config → list_any is_accepted (told_in past) ≡ before → list_any is_start past ≡ given
        → asking_less (asking_of past) ≡ asking_of (option_to_list (option_map asks (owed_word past)) ++ past)
    by true before given c b g = rw c refl
    by false true true c b g = rw (b, g, c) (rw (c, b, g) refl)
    by false true false c b g = rw (b, g, c) (rw c refl)
    by false false true c b g = rw (b, g, c) (rw (c, b, g) refl)
    by false false false c b g = rw (b, g, c) (rw (c, b, g) refl)
