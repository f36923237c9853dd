use Rattle.std.proofs.Common.{rules, ◌∙◌, ◌≡◌, ap, w32}
use Rattle.std.specs.Int.{from_be_bytes, from_le_bytes}
use Rattle.std.specs.Net.Addr.{ipv4_bits, IsIpv4OfBits}
use Rattle.std.proofs.lemmas.Nat.{from_be_bytes-to_be_bytes_4}
use Rattle.pg_limits.proofs.tcp.address.Goals as goal

pub returns : goal.returns
unfolding ipv4_bits IsIpv4OfBits
returns c =
    let bits : ipv4_bits c.from_bits.result ≡ from_le_bytes w32 c.in_ok-bytes.bytes =
    ap (from_be_bytes w32) c.from_bits.ensures ∙ (from_be_bytes-to_be_bytes_4 c.from_le_bytes.result (search rules) ∙ c.from_le_bytes.ensures)
    in rw bits (search rules)
