-- The bytes that a read gave.
use Rattle.std.specs.Prelude.{◌≡◌, ℕ, ◌<◌, List, length, slice_index, Option, Result, Ok, Err, IfOk}
use Rattle.std.specs.Io.KnownBytes.{Consumes, IsAtEnd}

-- how many: none where it failed
abbrev pub given_by : {E : Type 0} → Result ℕ E → ℕ
given_by (Ok n) = n
given_by (Err e) = 0

-- The reader lost just these bytes, and gave none only where it failed or has ended.
pub record Gave {E : Type 0} (before after : Option (List ℕ)) (r : Result ℕ E) (piece : List ℕ) : Type 0 where
  pub sized : length piece ≡ given_by r
  pub octets : (i : ℕ) → slice_index piece i < 256
  pub consumed : Consumes before after piece
  pub end : IfOk r (λ n. n ≡ 0 → IsAtEnd after)
