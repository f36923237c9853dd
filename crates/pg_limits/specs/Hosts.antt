-- Which hosts may connect.
use Rattle.std.specs.Prelude.{ℕ, Bool, true, ◌/◌, ◌-◌, ◌^◌, ◌==◌, List, Option, Some, None}
use Rattle.std.specs.List.{list_any}

-- a network: an address as a number of 32 bits, and how many of its first bits count
pub record Net : Type 0 where
  pub address : ℕ
  pub bits : ℕ

-- the first bits of an address
abbrev pub first_bits : ℕ → ℕ → ℕ
first_bits bits address = address / 2 ^ (32 - bits)

-- a host is of a network where the first bits of both addresses are the same
abbrev pub is_of : ℕ → Net → Bool
is_of host net = first_bits net.bits host == first_bits net.bits net.address

-- a host may connect where a network of the list has it; without a list every host may
abbrev pub is_allowed : ℕ → Option (List Net) → Bool
is_allowed host None = true
is_allowed host (Some nets) = list_any (λ net. is_of host net) nets
