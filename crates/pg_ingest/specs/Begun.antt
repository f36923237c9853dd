-- A command is begun.
use Rattle.std.specs.Prelude.{◌≡◌, Bool, true, false, Some, None}
use Rattle.pg_command.specs.declared.word.Word.{Word}
use Rattle.pg_command.specs.Words.{word_number}
use Rattle.pg_command.specs.Spelling.{written}
use Rattle.pg_ingest.specs.Commands.{asks}
use Rattle.pg_ingest.specs.Linking.{Linking}
use Rattle.pg_ingest.specs.Shown.{LinkPast, ShowsLink, doing, word_due}

-- The command that is owed was begun; or none is owed, and nothing changed.
abbrev pub Begins : LinkPast → Linking → Bool → Type 0
Begins past v true = (word : Word) × (word_due past ≡ Some word) × ShowsLink v (doing past (asks word)) × (v.left ≡ written past.source 0 (word_number word))
Begins past v false = (word_due past ≡ None) × ShowsLink v past
