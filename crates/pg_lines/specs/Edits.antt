-- What an operator's line asks for.
use Rattle.std.specs.Prelude.{ℕ, ◌==◌, Bool, false, List, [], ◌∷◌, Option, Some, None, option_map, if◌then◌else◌}
use Rattle.std.specs.Io.BufRead.{ends_with_byte, strip_last}
use Rattle.std.specs.Str.{is_utf8}
use Rattle.pg_lines.specs.Words.{Text}
use Rattle.pg_lines.specs.Lines.{words_of, edit_of}
use Rattle.pg_gateway.specs.declared.edit.Edit.{Edit}

-- a line without its LF, and without one CR before that
abbrev pub without_end : Text → Text
without_end line = if ends_with_byte 10 line then strip_last 13 (strip_last 10 line) else line

-- the first byte that is no space (32) is `#` (35)
abbrev pub is_comment : Text → Bool
is_comment [] = false
is_comment (b ∷ bs) = if b == 32 then is_comment bs else (b == 35)

-- what words ask for, which are those of the line: none for nothing, and else for an edit
abbrev pub words_edit : List Text → Text → Option (Option Edit)
words_edit [] line = Some None
words_edit (verb ∷ ws) line = option_map Some (edit_of line)

abbrev pub text_edit : Text → Option (Option Edit)
text_edit line = words_edit (words_of line) line

-- What a line asks for: a comment nothing, whatever its bytes are, and else only a text anything.
abbrev pub edit_line : List ℕ → Option (Option Edit)
edit_line line = if is_comment line then Some None else (if is_utf8 line then text_edit line else None)
