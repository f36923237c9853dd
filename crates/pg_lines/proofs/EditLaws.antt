-- What a line asks for, by whether it is text.
use Rattle.std.proofs.Common.{◌≡◌, Bool, true, false, List, ℕ, None, refl}
use Rattle.std.specs.Str.{is_utf8, IsUtf8}
use Rattle.std.proofs.lemmas.Str.{IsUtf8-from_is_utf8, is_utf8-from_IsUtf8}
use Rattle.pg_lines.specs.Edits.{is_comment, text_edit, edit_line}

pub edit_text : (line : List ℕ) → is_comment line ≡ false → IsUtf8 line → edit_line line ≡ text_edit line
edit_text line comment text = rw (comment, is_utf8-from_IsUtf8 line text) refl

pub not_text : (line : List ℕ) → (IsUtf8 line → ⊥) → is_utf8 line ≡ false
not_text line none = by (is_utf8 line) refl
  where
    by : (b : Bool) → is_utf8 line ≡ b → b ≡ false
    by true is = absurd (none (IsUtf8-from_is_utf8 line is))
    by false is = refl

pub edit_none : (line : List ℕ) → is_comment line ≡ false → (IsUtf8 line → ⊥) → edit_line line ≡ None
edit_none line comment none = rw (comment, not_text line none) refl
