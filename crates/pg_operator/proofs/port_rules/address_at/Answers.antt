use Rattle.std.proofs.Common.{rules, ap, ◌≡◌, codes, Some, None}
use Rattle.std.specs.Int.{w32, from_be_bytes}
use Rattle.std.specs.Net.Addr.{ipv4_bits}
use Rattle.toml.specs.Data.{get_member}
use Rattle.toml.specs.View.{table_view}
use Rattle.pg_operator.proofs.port_rules.address_at.Goals as goal

pub returns-in-None : goal.returns-in-None
unfolding ipv4_bits
returns-in-None c =
    let absent : get_member (codes "address") (table_view c.args.table.now) ≡ None = search rules in
    rw absent (ap (λ octets. Some (from_be_bytes w32 octets)) c.new.ensures)
