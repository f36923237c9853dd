use Rattle.std.proofs.Common.{◌≡◌, ◌++◌, List}
use Rattle.pg_command.specs.declared.word.Word.{Word}
use Rattle.pg_ingest.specs.Linking.{words_owed}
use Rattle.pg_ingest.specs.Shown as ingest
use Rattle.pg_ingest.specs.Shown.{LinkPast}
use Rattle.pg_serve.specs.Actions.{words_due, frames_of, gave}
use Rattle.pg_serve.proofs.feeding.give_commands.Given as goal

abbrev pub invariant-loop-frame : goal.invariant-loop-frame
invariant-loop-frame l = (past : LinkPast) → ingest.ShowsLink l.fn.link past
    → (words : List Word) × (l.frames.items ≡ frames_of past.source words) × ingest.ShowsLink l.link (gave past words)
    × (words ++ words_due (gave past words) ≡ words_due past)

abbrev pub decreases-loop-frame : goal.decreases-loop-frame
decreases-loop-frame l = words_owed l.link
