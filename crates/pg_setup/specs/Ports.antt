-- Ports that are open by one setup and not, or otherwise, by another.
use Rattle.std.specs.Prelude.{ℕ, ◌==◌, ◌&&◌, Bool, true, false, List, map, Option, Some, None}
use Rattle.std.specs.Cmp.Lexicographic.{pointwise}
use Rattle.std.specs.List.{list_any, filter_map}
use Rattle.pg_limits.specs.Hosts.{Net}
use Rattle.pg_limits.specs.declared.layouts.OnChange.{OnChange}
use Rattle.pg_limits.specs.declared.layouts.OnChange.TheVariants as on_change
use Rattle.pg_operator.specs.Setups.{PortRulesValue, PortValue, Subscriber, subscriber_value}
use Rattle.pg_operator.specs.declared.setup.Setup.{Setup}

-- those of the subscribers that have one
abbrev pub ports_of : List Subscriber → List PortValue
ports_of subscribers = filter_map (λ s. s.port) subscribers

abbrev pub open_ports : Setup → List PortValue
open_ports setup = ports_of (map subscriber_value setup.subscribers.items)

-- every field is the same
abbrev pub net_eq : Net → Net → Bool
net_eq a b = a.address == b.address && a.bits == b.bits

abbrev pub allow_eq : Option (List Net) → Option (List Net) → Bool
allow_eq None None = true
allow_eq (Some a) (Some b) = pointwise net_eq a b
allow_eq a b = false

abbrev pub is_same_bool : Bool → Bool → Bool
is_same_bool true b = b
is_same_bool false true = false
is_same_bool false false = true

abbrev pub change_eq : OnChange → OnChange → Bool
change_eq on_change.Safe on_change.Safe = true
change_eq on_change.HangUp on_change.HangUp = true
change_eq on_change.Keep on_change.Keep = true
change_eq a b = false

abbrev pub port_rules_eq : PortRulesValue → PortRulesValue → Bool
port_rules_eq c d =
    (((((c.sub == d.sub && c.address == d.address) && allow_eq c.allow d.allow) && is_same_bool c.takeover d.takeover) && c.stall == d.stall) && c.idle == d.idle)
    && change_eq c.change d.change

abbrev pub opened_eq : PortValue → PortValue → Bool
opened_eq p q = p.port == q.port && port_rules_eq p.rules q.rules

-- one of the ports is this one
abbrev pub is_open : List PortValue → PortValue → Bool
is_open ports p = list_any (λ q. opened_eq q p) ports
