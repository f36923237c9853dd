-- A word that is not a text, by the test that computes.
use Rattle.std.proofs.Common.{◌≡◌, sym, false}
use Rattle.std.proofs.lemmas.Bool.{false_from_ne_true}
use Rattle.std.specs.Str.{bytes_eq}
use Rattle.std.proofs.lemmas.Slice.Eq.{bytes_eq-Decides}
use Rattle.pg_lines.specs.Words.{Text}

pub differs : (name w : Text) → (w ≡ name → ⊥) → bytes_eq name w ≡ false
differs name w h = false_from_ne_true (bytes_eq name w) (λ e. h (sym ((bytes_eq-Decides name w).0 e)))
