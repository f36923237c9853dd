-- Reading of command frames, with the first refusal that holds.
use Rattle.std.specs.Prelude.{ℕ, ◌/◌, List, length, slice_index, Result, Ok, Err, nat_lt, ◌==◌, ◌&&◌, not, if◌then◌else◌}
use Rattle.pg_wire.specs.declared.refusal.Refusal.{Refusal}
use Rattle.pg_wire.specs.declared.refusal.Refusal.TheVariants.{WrongType, BadLength}
use Rattle.pg_wire.specs.Head.{two_at}
use Rattle.pg_command.specs.declared.command.Command.{Command}

abbrev pub command_of : List ℕ → Result Command Refusal
command_of frame =
    if not (slice_index frame 1 / 16 == 4) then Err WrongType else
    if nat_lt (length frame) 18 then Err BadLength else
    if nat_lt 18 (length frame) && not (two_at frame 14 == 8) then Err BadLength else
    Ok (record { stream = two_at frame 4; word = two_at frame 14 })
