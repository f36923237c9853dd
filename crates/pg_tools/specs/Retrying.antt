-- When a command is sent again.
use Rattle.std.specs.Prelude.{ℕ, Bool, nat_le, ◌+◌, if◌then◌else◌}

-- whether a command is sent again when one more second passes: the third without its answer
abbrev pub is_due : ℕ → Bool
is_due waited = nat_le 2 waited

-- the seconds that it has waited then
abbrev pub waited_after : ℕ → ℕ
waited_after waited = (if is_due waited then 0 else waited + 1)
