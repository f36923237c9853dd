-- How one read, or the writing of what is left, ends.
use Rattle.std.specs.Prelude.{◌≡◌, ◌≢◌, ℕ, List, [], Option, Some, None, Result, Ok, Err}
use Rattle.std.specs.Io.KnownBytes.{IsAtEnd}
use Rattle.std.specs.IoError.{error_kind}
use Rattle.std.specs.declared.io.ErrorKind.TheVariants.{WouldBlock}
use Rattle.std.specs.declared.io.Error.{Error}
use Rattle.pg_ingest.specs.declared.run.End.{End}
use Rattle.pg_ingest.specs.declared.run.End.TheVariants.{Closed, Quiet, Stalled, Fault}

-- What a read came to: bytes, the reader's end, that it would wait, or a failure.
abbrev pub EndsAs : Option End → Result ℕ Error → Type 0
EndsAs end (Ok n) = (n ≡ 0 → end ≡ Some Closed) × (n ≢ 0 → end ≡ None)
EndsAs end (Err e) = (error_kind e ≡ WouldBlock → end ≡ Some Quiet) × (error_kind e ≢ WouldBlock → end ≡ Some (Fault 39))

-- a read gave these bytes, and so a call goes on or ends, of which r is left
abbrev pub EndsRead : Option End → List ℕ → Option (List ℕ) → Type 0
EndsRead None piece r = piece ≢ []
EndsRead (Some Closed) piece r = (piece ≡ []) × IsAtEnd r
EndsRead (Some Quiet) piece r = piece ≡ []
EndsRead (Some Stalled) piece r = ⊥
EndsRead (Some (Fault n)) piece r = (n ≡ 39) × (piece ≡ [])

-- a write was cut short, and this is left
abbrev pub IsStuck : End → List ℕ → Type 0
IsStuck Closed left = ⊥
IsStuck Quiet left = ⊥
IsStuck Stalled left = left ≢ []
IsStuck (Fault n) left = (n ≡ 40) × (left ≢ [])
