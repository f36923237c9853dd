-- What stands at a frame's place.
use Rattle.std.specs.Prelude.{◌≡◌, ◌≤◌, ℕ, List, length, take, Some}
use Rattle.pg_wire.specs.declared.deframer.NextFrame.{NextFrame}
use Rattle.pg_wire.specs.declared.deframer.NextFrame.TheVariants.{Whole, Partial, Break}
use Rattle.pg_wire.specs.Frame.{IsWhole, IsPartial, break_of}

abbrev pub IsNextFrame : List ℕ → NextFrame → Type 0
IsNextFrame bytes (Whole size) = (size ≤ length bytes) × IsWhole (take size bytes)
IsNextFrame bytes Partial = IsPartial bytes
IsNextFrame bytes (Break refusal) = break_of bytes ≡ Some refusal
