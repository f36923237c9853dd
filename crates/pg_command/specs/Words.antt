-- The words of commands.
use Rattle.std.specs.Prelude.{◌≡◌, ◌⊎◌, ◌≤◌, ℕ, Option, Some, None, ◌==◌, if◌then◌else◌}
use Rattle.pg_command.specs.declared.word.Word.{Word}
use Rattle.pg_command.specs.declared.word.Word.TheVariants.{StopData, StartData, SendHeader, SendCfgOne, SendCfgTwo, SendCfgThree, Extended}

abbrev pub word_number : Word → ℕ
word_number StopData = 1
word_number StartData = 2
word_number SendHeader = 3
word_number SendCfgOne = 4
word_number SendCfgTwo = 5
word_number SendCfgThree = 6
word_number Extended = 8

-- the numbers that are words
abbrev pub IsKnown : ℕ → Type 0
IsKnown number = ((1 ≤ number) × (number ≤ 6)) ⊎ (number ≡ 8)

abbrev pub word_of : ℕ → Option Word
word_of number =
    if number == 1 then Some StopData else
    if number == 2 then Some StartData else
    if number == 3 then Some SendHeader else
    if number == 4 then Some SendCfgOne else
    if number == 5 then Some SendCfgTwo else
    if number == 6 then Some SendCfgThree else
    if number == 8 then Some Extended else
    None
