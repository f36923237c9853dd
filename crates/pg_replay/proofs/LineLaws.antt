-- What a line asks for, by whether it is text.
use Rattle.std.proofs.Common.{◌≡◌, false, List, ℕ, None, refl}
use Rattle.std.specs.Str.{is_utf8, IsUtf8}
use Rattle.std.proofs.lemmas.Str.{is_utf8-from_IsUtf8}
use Rattle.pg_lines.specs.Edits.{is_comment}
use Rattle.pg_lines.proofs.EditLaws.{not_text}
use Rattle.pg_replay.specs.Lines.{text_asks, asked_in}

pub asked_text : (line : List ℕ) → is_comment line ≡ false → IsUtf8 line → asked_in line ≡ text_asks line
asked_text line comment text = rw (comment, is_utf8-from_IsUtf8 line text) refl

pub asked_none : (line : List ℕ) → is_comment line ≡ false → (IsUtf8 line → ⊥) → asked_in line ≡ None
asked_none line comment none = rw (comment, not_text line none) refl
