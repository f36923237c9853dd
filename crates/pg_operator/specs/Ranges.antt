-- What a key of the setup file says of its number.
use Rattle.std.specs.Prelude.{ℕ, Option}
use Rattle.toml.specs.Data.{Data}
use Rattle.pg_operator.specs.declared.keys.Absent.{Absent}
use Rattle.pg_operator.specs.declared.keys.Absent.TheVariants.{Number}
use Rattle.pg_operator.specs.declared.keys.SetupKey.{SetupKey}
use Rattle.pg_operator.specs.declared.kind.Kind.{Kind}
use Rattle.pg_operator.specs.declared.kind.Kind.TheVariants.{Whole}
use Rattle.pg_operator.specs.Setups.{whole_in}

-- the least and the most number; no number is between those of a key whose values are no numbers
abbrev pub least_of : Kind → ℕ
least_of (Whole least most) = least
least_of _ = 1

abbrev pub most_of : Kind → ℕ
most_of (Whole least most) = most
most_of _ = 0

-- the number where the key is left out
abbrev pub otherwise_of : Absent → ℕ
otherwise_of (Number n) = n
otherwise_of _ = 0

-- a whole number in the range of the key
abbrev pub in_range : SetupKey → Data → Option ℕ
in_range key = whole_in (least_of key.kind) (most_of key.kind)
