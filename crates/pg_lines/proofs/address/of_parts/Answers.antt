use Rattle.std.proofs.Common.{sym, ap, Some}
use Rattle.std.specs.Int.{w32, from_be_bytes}
use Rattle.std.specs.Net.Addr.{ipv4_bits}
use Rattle.pg_lines.proofs.address.of_parts.Goals as goal

pub returns : goal.returns
unfolding ipv4_bits
returns c = rw (sym c.in_ok-a.ensures, sym c.in_ok-b.ensures, sym c.in_ok-c.ensures, sym c.in_ok-d.ensures) (ap (λ octets. Some (from_be_bytes w32 octets)) c.new.ensures)
