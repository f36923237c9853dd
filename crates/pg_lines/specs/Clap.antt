-- How `clap` reads the words of a line: a subcommand for each verb, which takes one to 39 words.
use Rattle.std.specs.Prelude.{◌&&◌, Bool, true, false, List, [], ◌∷◌, length, Option, Some, None, is_some, option_map, option_and_then, if◌then◌else◌, nat_le, codes, find, fold}
use Rattle.std.specs.Str.{bytes_eq}
use Rattle.clap.specs.Words.{all_of, fault_of, subcommand_of, Kinds, Row, App, Rule, new_app, new_rule, with_rule, with_subcommand}
use Rattle.pg_lines.specs.Words.{Text}
use Rattle.pg_lines.specs.Verbs.{verbs}

abbrev pub words_rule : Rule
words_rule = record (new_rule (codes "words")) { required = true; range = Some (record { start_inclusive = 1; end_inclusive = 39 }) }

abbrev pub verb_app : Text → App
verb_app name = with_rule (new_app name) words_rule

abbrev pub start_app : App
start_app = record {
  top = record (new_app (codes "line")).top {
    no_binary_name = true;
    disable_help_flag = true;
    disable_help_subcommand = true;
    subcommand_required = true;
  };
  subs = [];
}

abbrev pub with_verb : App → Text → App
with_verb a name = with_subcommand a (verb_app name).top

abbrev pub line_app : App
line_app = fold with_verb start_app verbs

abbrev pub is_nil : Kinds → Bool
is_nil [] = true
is_nil (k ∷ ks) = false

-- a verb, and the words after it
abbrev pub Asked : Type 0
Asked = Option (Text × List Text)

abbrev pub asked_in : Option (Text × List Row) → Asked
asked_in found = option_and_then (λ p. option_map (λ ws. (p.0, ws)) (all_of (codes "words") p.1)) found

-- what a parse by clap comes to, memory aside
abbrev pub asked_by_clap : List Text → Asked
asked_by_clap ws = if is_nil (fault_of line_app ws) then asked_in (subcommand_of line_app ws) else None

-- the same without clap
abbrev pub asked : List Text → Asked
asked [] = None
asked (word ∷ ws) = if is_some (find (λ v. bytes_eq v word) verbs) && (nat_le 1 (length ws) && nat_le (length ws) 39) then Some (word, ws) else None
