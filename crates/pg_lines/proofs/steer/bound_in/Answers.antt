use Rattle.std.proofs.Common.{ap, Some, ◌∙◌}
use Rattle.std.specs.Int.{w32, from_be_bytes}
use Rattle.std.specs.Net.Addr.{ipv4_bits}
use Rattle.pg_lines.proofs.Counts.{no_host, two_hosts}
use Rattle.pg_lines.proofs.steer.bound_in.Goals as goal

pub returns-in-empty : goal.returns-in-empty
unfolding ipv4_bits
returns-in-empty c = ap (λ octets. Some (from_be_bytes w32 octets)) c.new.ensures ∙ no_host (λ w. w.now) c.args.args.now c.in-empty.len_below

pub returns-in_default : goal.returns-in_default
returns-in_default c = two_hosts (λ w. w.now) c.args.args.now c.in_default.len_at_least
