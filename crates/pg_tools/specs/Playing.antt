-- What a simulated source does.
use Rattle.std.specs.Prelude.{◌≡◌, ℕ, ◌+◌, ◌-◌, Option, Some, None, nat_lt, if◌then◌else◌}
use Rattle.pg_command.specs.declared.word.Word.{Word}
use Rattle.pg_command.specs.declared.word.Word.TheVariants.{StartData, StopData, SendHeader, SendCfgOne, SendCfgTwo, SendCfgThree, Extended}
use Rattle.pg_tools.specs.declared.source.CommandEvent.{CommandEvent}
use Rattle.pg_tools.specs.declared.source.CommandEvent.TheVariants.{Obeyed, NotAnswered, Ignored, More, Broken}

-- The last slot that is done with while data is on, after a command at the instant of a slot.
abbrev pub sending_after : Option ℕ → Word → ℕ → Option ℕ
sending_after (Some last) StartData slot = Some last
sending_after None StartData slot = Some slot
sending_after sending StopData slot = None
sending_after sending SendHeader slot = sending
sending_after sending SendCfgOne slot = sending
sending_after sending SendCfgTwo slot = sending
sending_after sending SendCfgThree slot = sending
sending_after sending Extended slot = sending

-- The last slot that is done with, where the slots up to one of them were, at the slot of a clock that has so many in a second: the clock's slot
-- where that one lies more than a second ahead of it.
abbrev pub done_by : ℕ → ℕ → ℕ → ℕ
done_by sent clock rate = if nat_lt rate (sent - clock) then clock else sent

-- The first slot that is due behind the last one done with, where at most so many are due up to the end.
abbrev pub least_slot : ℕ → ℕ → ℕ → ℕ
least_slot last end most = if nat_lt (last + 1) (end - (most - 1)) then end - (most - 1) else last + 1

-- What is event switches data on and off just where it is a command 1 or 2.
abbrev pub IsAfter : CommandEvent → Option ℕ → Option ℕ → Type 0
IsAfter (Obeyed word) old new = (slot : ℕ) × (new ≡ sending_after old word slot)
IsAfter (NotAnswered word) old new = (slot : ℕ) × (new ≡ sending_after old word slot)
IsAfter (Ignored refusal) old new = new ≡ old
IsAfter More old new = new ≡ old
IsAfter (Broken refusal) old new = new ≡ old
