-- What the results of reads and writes say of the bytes that were moved.
use Rattle.std.specs.Prelude.{ℕ, ◌+◌, ◌-◌, ◌^◌, min, Bool, true, false, nat_lt, ◌&&◌, not, Result, Ok, Err}

-- how many bytes were moved after one more call: as many more as it says, and none where it fails; the count ends at the last of 64 bits
abbrev pub moved_by : {E : Type 0} → Result ℕ E → ℕ → ℕ
moved_by (Ok n) moved = min (moved + n) (2 ^ 64 - 1)
moved_by (Err _) moved = moved

-- A read that had room for so many bytes is the last for now: it gave fewer, or failed. Where the peer sends no more, only one that failed
-- is.
abbrev pub is_last : {E : Type 0} → Bool → Result ℕ E → ℕ → Bool
is_last is_ending (Ok n) room = nat_lt n room && not is_ending
is_last is_ending (Err _) room = true

-- a read gave bytes
abbrev pub has_given : {E : Type 0} → Result ℕ E → Bool
has_given (Ok n) = nat_lt 0 n
has_given (Err _) = false
