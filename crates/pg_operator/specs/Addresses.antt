-- Names of hosts, addresses and networks, as the setup file writes them.
use Rattle.std.specs.Prelude.{ℕ, ◌-◌, ◌==◌, ◌&&◌, ◌||◌, Bool, false, not, List, [], ◌∷◌, length, Option, Some, None, is_some, option_map, option_and_then, if◌then◌else◌, nat_lt, nat_le, slice_index, string_bytes}
use Rattle.std.specs.Char.{is_ascii_alphanumeric, is_ascii_digit}
use Rattle.std.specs.List.{list_all, slice_split}
use Rattle.std.specs.Option.{option_map_or}
use Rattle.pg_limits.specs.Hosts.{Net}
use Rattle.pg_lines.specs.Words.{Text, number_in, halves}
use Rattle.pg_lines.specs.Addresses.{Endpoint, endpoint, endpoint_in, host_in, port_in}
use Rattle.pg_operator.specs.declared.address.CalledAddress.{CalledAddress}
use Rattle.pg_operator.specs.declared.address.CalledAddress.TheVariants as called
use Rattle.pg_operator.specs.declared.address.SourceAddress.{SourceAddress}
use Rattle.pg_operator.specs.declared.address.SourceAddress.TheVariants as source_at

-- ---- names of hosts

-- letters, digits and the hyphen (45)
abbrev pub is_label_byte : ℕ → Bool
is_label_byte b = is_ascii_alphanumeric b || b == 45

-- one to 63 of these, of which neither the first nor the last is a hyphen
abbrev pub is_label : Text → Bool
is_label w =
    (nat_lt 0 (length w) && nat_le (length w) 63) && (not (slice_index w 0 == 45) && (not (slice_index w (length w - 1) == 45) && list_all is_label_byte w))

-- what stands between dots
abbrev pub labels_of : Text → List Text
labels_of w = slice_split (λ b. b == 46) w

abbrev pub last_of : List Text → Text
last_of [] = []
last_of (w ∷ []) = w
last_of (w ∷ x ∷ ws) = last_of (x ∷ ws)

-- labels joined by dots, at most 253 bytes, of which the last is not digits alone
abbrev pub is_name : Text → Bool
is_name w = nat_le (length w) 253 && (list_all is_label (labels_of w) && not (list_all is_ascii_digit (last_of (labels_of w))))

-- ---- where a source is connected to: `A.B.C.D:PORT`, or `NAME:PORT`; the colon is 58

pub data AddressValue : Type 0 where
  at : Endpoint → AddressValue
  named : Text → AddressValue

abbrev pub named_in : Text → Bool
named_in w = option_map_or (λ p. is_name p.0 && is_some (port_in p.1)) (halves 58 w) false

abbrev pub address_of : Text → Option AddressValue
address_of w = option_map_or (λ e. Some (at e)) (endpoint_in w) (if named_in w then Some (named w) else None)

-- the same, of an address that was read, and of one that the setup keeps
abbrev pub called_value : CalledAddress → AddressValue
called_value (called.Endpoint a) = at (endpoint a)
called_value (called.Name s) = named s.now

abbrev pub address_value : SourceAddress → AddressValue
address_value (source_at.Endpoint a) = at (endpoint a)
address_value (source_at.Name s) = named (string_bytes s)

-- ---- `A.B.C.D/BITS`, or `A.B.C.D` alone, which is one host; the slash is 47

abbrev pub net_of : ℕ → ℕ → Net
net_of address bits = record { address = address; bits = bits }

abbrev pub network_by : Text → Option (Text × Text) → Option Net
network_by w None = option_map (λ address. net_of address 32) (host_in w)
network_by w (Some p) = option_and_then (λ address. option_map (net_of address) (number_in 0 32 p.1)) (host_in p.0)

abbrev pub network_in : Text → Option Net
network_in w = network_by w (halves 47 w)
