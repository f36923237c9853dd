-- The verbs of the operator's lines, as they are written.
use Rattle.std.specs.Prelude.{List, [], ◌∷◌, map, find, Option, option_map, codes}
use Rattle.std.specs.Str.{bytes_eq}
use Rattle.pg_lines.specs.Words.{Text}
use Rattle.pg_lines.specs.declared.verb.Verb.{Verb}
use Rattle.pg_lines.specs.declared.verb.Verb.TheVariants as verb

abbrev pub table : List (Text × Verb)
table =
    (codes "addpmu", verb.AddPmu) ∷ (codes "droppmu", verb.DropPmu) ∷ (codes "addsub", verb.AddSub) ∷ (codes "dropsub", verb.DropSub)
    ∷ (codes "grant", verb.Grant) ∷ (codes "revoke", verb.Revoke) ∷ (codes "define", verb.Define) ∷ (codes "remove", verb.Remove)
    ∷ (codes "stats", verb.Stats) ∷ (codes "pmustats", verb.PmuStats) ∷ (codes "audit", verb.Audit) ∷ []

-- as they are written
abbrev pub verbs : List Text
verbs = map (λ row. row.0) table

-- the verb that is written so
abbrev pub verb_of : Text → Option Verb
verb_of w = option_map (λ row. row.1) (find (λ row. bytes_eq row.0 w) table)
