-- Addresses, as lines and the setup file write them.
use Rattle.std.specs.Prelude.{ℕ, [], ◌∷◌, Option, option_map, option_and_then}
use Rattle.std.specs.Int.{w32, from_be_bytes}
use Rattle.std.specs.Net.Addr.{ipv4_bits}
use Rattle.std.specs.Net.Socket.{v4_ip, v4_port}
use Rattle.std.specs.declared.net.socket_addr.SocketAddrV4.{SocketAddrV4}
use Rattle.pg_lines.specs.Words.{Text, number_in, halves}

-- ---- `A.B.C.D`

-- one of its four numbers
abbrev pub part_in : Text → Option ℕ
part_in = number_in 0 255

-- the address as a number of 32 bits, of which the first part is the highest
abbrev pub bits_of : ℕ → ℕ → ℕ → ℕ → ℕ
bits_of a b c d = from_be_bytes w32 (a ∷ b ∷ c ∷ d ∷ [])

abbrev pub parts_in : Text → Text → Text → Text → Option ℕ
parts_in v w x y =
    option_and_then (λ a. option_and_then (λ b. option_and_then (λ c. option_map (bits_of a b c) (part_in y)) (part_in x)) (part_in w)) (part_in v)

-- the dot is 46
abbrev pub host_in : Text → Option ℕ
host_in w =
    option_and_then (λ a. option_and_then (λ b. option_and_then (λ c. parts_in a.0 b.0 c.0 c.1) (halves 46 b.1)) (halves 46 a.1)) (halves 46 w)

-- ---- `A.B.C.D:PORT` as its host, a number of 32 bits, and its port; the colon is 58

abbrev pub Endpoint : Type 0
Endpoint = ℕ × ℕ

abbrev pub port_in : Text → Option ℕ
port_in = number_in 1 65535

abbrev pub endpoint_in : Text → Option Endpoint
endpoint_in w = option_and_then (λ p. option_and_then (λ host. option_map (λ port. (host, port)) (port_in p.1)) (host_in p.0)) (halves 58 w)

-- the same, of an address that was read
abbrev pub endpoint : SocketAddrV4 → Endpoint
endpoint a = (ipv4_bits (v4_ip a), v4_port a)
