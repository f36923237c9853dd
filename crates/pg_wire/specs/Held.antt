-- What is known of the bytes that a deframer holds.
use Rattle.std.specs.Prelude.{ℕ, ◌≤◌, ◌<◌, slice_index, IfSome}
use Rattle.pg_wire.specs.declared.refusal.Refusal.{Refusal}
use Rattle.pg_wire.specs.Number.{number_of}
use Rattle.pg_wire.specs.Stream.{Deframing}

-- what breaks a stream: BadFirst, BadSecond or ShortSize
abbrev pub IsBreak : Refusal → Type 0
IsBreak r = (2 ≤ number_of r) × (number_of r ≤ 4)

-- each number that is held is a byte's, and a break is one of the three
pub record IsHeld (d : Deframing) : Type 0 where
  pub octets : (i : ℕ) → slice_index d.held i < 256
  pub broke : IfSome d.broken IsBreak
