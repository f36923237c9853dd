-- Lines of bounded length, split off byte by byte, and what a line is for its connection.
use Rattle.std.specs.Prelude.{ℕ, List, Bool, Option, Some, None, [], ◌∷◌, ◌++◌, length, nat_lt, nat_eq, drop, codes, not, true, false, if◌then◌else◌}
use Rattle.std.specs.List.{position, starts_with}
use Rattle.std.specs.Str.{bytes_eq}
use Rattle.pg_status.specs.declared.lines.LineKind.{LineKind}
use Rattle.pg_status.specs.declared.lines.LineKind.TheVariants.{Other, End, Quit}

-- the bytes of a line that has not ended, and whether it was longer than it may be
pub record Begun : Type 0 where
  pub bytes : List ℕ
  pub is_long : Bool

-- a line of which no byte has come
abbrev pub fresh : Begun
fresh = record { bytes = []; is_long = false }

-- one more byte, which ends no line: kept up to 4,096, and then the line is too long
abbrev pub lengthened : ℕ → Begun → Begun
lengthened byte line =
    (if nat_lt (length line.bytes) 4096 then record { bytes = line.bytes ++ byte ∷ []; is_long = line.is_long }
    else record { bytes = line.bytes; is_long = true })

-- a space, 32
abbrev pub is_space : ℕ → Bool
is_space byte = nat_eq byte 32

-- where the first byte is that is no space
abbrev pub word_in : List ℕ → Option ℕ
word_in line = position (λ byte. not (is_space byte)) line

-- what stands from a place on, or nothing
abbrev pub from : Option ℕ → List ℕ → List ℕ
from None line = []
from (Some place) line = drop place line

-- a line without the spaces before it
abbrev pub past_spaces : List ℕ → List ℕ
past_spaces line = from (word_in line) line

-- the word `quit`, with spaces around it or none
abbrev pub is_quit : List ℕ → Bool
is_quit line =
    (if starts_with nat_eq (past_spaces line) (codes "quit") then nat_eq (length (past_spaces (drop 4 (past_spaces line)))) 0
    else false)

-- what a line is for its connection
abbrev pub kind_in : List ℕ → LineKind
kind_in line = (if bytes_eq line (codes "end") then End else (if is_quit line then Quit else Other))
