-- The ports that are opened by a setup, and the sources that are connected to.
use Rattle.std.specs.Prelude.{ℕ, Bool, List, length, map, Option, Some, None, option_map, if◌then◌else◌, nat_lt, string_bytes}
use Rattle.std.specs.List.{filter_map}
use Rattle.std.specs.Duration.{as_nanos}
use Rattle.std.specs.declared.net.SocketAddr.{SocketAddr}
use Rattle.std.specs.declared.net.SocketAddr.TheVariants as socket
use Rattle.pg_lines.specs.Addresses.{endpoint}
use Rattle.pg_operator.specs.Addresses.{AddressValue, at, named}
use Rattle.pg_operator.specs.Setups.{PortRulesValue, SourceValue, Subscriber}
use Rattle.pg_service.specs.declared.metered_gate.Guards.{Guards}
use Rattle.pg_service.specs.declared.targets.Address.{Address}
use Rattle.pg_service.specs.declared.targets.Address.TheVariants as address
use Rattle.pg_service.specs.declared.targets.Dial.{Dial}
use Rattle.pg_subscribers.specs.Endpoints.{EndpointState}
use Rattle.pg_run.specs.Limits.{guards_by, limit_of}

-- It has just these rules, and nobody is connected.
abbrev pub opened_by : PortRulesValue → EndpointState
opened_by r = record { sub = r.sub; allow = r.allow; takeover = r.takeover; stall = limit_of r.stall; idle = limit_of r.idle; change = r.change; connection = None }

-- those of the subscribers that have one
abbrev pub opened_of : List Subscriber → List EndpointState
opened_of subscribers = filter_map (λ s. option_map (λ p. opened_by p.rules) s.port) subscribers

-- where a source is connected to; nothing of an address of IPv6, which no setup has
abbrev pub known_value : SocketAddr → Option AddressValue
known_value (socket.V4 a) = Some (at (endpoint a))
known_value (socket.V6 a) = None

abbrev pub target_value : Address → Option AddressValue
target_value (address.Known a) = known_value a
target_value (address.Name s) = Some (named (string_bytes s))

-- a source that is connected to, where in turn, and how it is watched
pub record Dialled : Type 0 where
  pub source : ℕ
  pub addresses : List (Option AddressValue)
  pub prefer_first : Bool
  pub silence : Option ℕ
  pub guards : Guards

abbrev pub dial_value : Dial → Dialled
dial_value d = record { source = d.source; addresses = map target_value d.addresses.items; prefer_first = d.prefer_first; silence = option_map as_nanos d.silence; guards = d.guards }

-- a source that has an address is connected to, and watched by its own rules
abbrev pub dialled_by : SourceValue → Option Dialled
dialled_by s =
    if nat_lt 0 (length s.connect)
    then Some (record { source = s.rules.source; addresses = map (λ a. Some a) s.connect; prefer_first = s.rules.prefer_first; silence = limit_of s.rules.silence; guards = guards_by s.rules })
    else None

abbrev pub dialled_of : List SourceValue → List Dialled
dialled_of sources = filter_map dialled_by sources
