-- Sources that are connected to, and ports that are open, by one setup and not, or otherwise, by another.
use Rattle.std.specs.Prelude.{◌≡◌, true, false, ℕ, ◌==◌, ◌&&◌, ◌++◌, Bool, List, length, map, filter, Option, Some, None, if◌then◌else◌, nat_eq, nat_lt}
use Rattle.std.specs.Cmp.Lexicographic.{pointwise}
use Rattle.std.specs.List.{list_any, filter_map}
use Rattle.std.specs.Option.{option_eq}
use Rattle.std.specs.Str.{bytes_eq}
use Rattle.pg_operator.specs.Addresses.{AddressValue, at, named}
use Rattle.pg_operator.specs.Setups.{PortValue, SourceValue, port_value, source_value}
use Rattle.pg_operator.specs.declared.setup.Setup.{Setup}
use Rattle.pg_operator.specs.declared.source.SourceRules.{SourceRules}
use Rattle.pg_setup.specs.Ports.{is_open, is_same_bool}
use Rattle.pg_setup.specs.Restarts.{endpoint_eq}
use Rattle.pg_setup.specs.declared.orders.Order.{Order}
use Rattle.pg_setup.specs.declared.orders.Order.TheVariants as order

-- those of the sources that are connected to: that have an address
abbrev pub calls_of : List SourceValue → List SourceValue
calls_of sources = filter (λ s. nat_lt 0 (length s.connect)) sources

abbrev pub connected : Setup → List SourceValue
connected setup = calls_of (map source_value setup.sources.items)

-- every field is the same
abbrev pub rules_eq : SourceRules → SourceRules → Bool
rules_eq r q = (((r.source == q.source && r.silence == q.silence) && option_eq nat_eq r.clock_ms q.clock_ms) && r.ahead_ms == q.ahead_ms) && is_same_bool r.prefer_first q.prefer_first

abbrev pub address_eq : AddressValue → AddressValue → Bool
address_eq (at a) (at b) = endpoint_eq a b
address_eq (named a) (named b) = bytes_eq a b
address_eq a b = false

abbrev pub called_eq : SourceValue → SourceValue → Bool
called_eq c d = pointwise address_eq c.connect d.connect && rules_eq c.rules d.rules

-- one of the calls is this one
abbrev pub is_called : List SourceValue → SourceValue → Bool
is_called calls c = list_any (λ d. called_eq d c) calls

-- ---- orders

pub data OrderValue : Type 0 where
  undialled : ℕ → OrderValue
  dialled : SourceValue → OrderValue
  unlistened : ℕ → OrderValue
  listened : PortValue → OrderValue

-- the value of an order
abbrev pub order_value : Order → OrderValue
order_value (order.Undial source) = undialled source
order_value (order.Dial call) = dialled (source_value call)
order_value (order.Unlisten sub) = unlistened sub
order_value (order.Listen port) = listened (port_value port)

-- calls that are not among the others end, or begin
abbrev pub ended : List SourceValue → SourceValue → Option OrderValue
ended others c = if is_called others c then None else Some (undialled c.rules.source)

abbrev pub begun : List SourceValue → SourceValue → Option OrderValue
begun others c = if is_called others c then None else Some (dialled c)

-- first end those that are gone or changed, then begin the new and changed ones
abbrev pub orders_between : List SourceValue → List SourceValue → List OrderValue
orders_between old new = filter_map (ended new) old ++ filter_map (begun old) new

-- ports that are not among the others are closed, or opened
abbrev pub closed : List PortValue → PortValue → Option OrderValue
closed others p = if is_open others p then None else Some (unlistened p.rules.sub)

abbrev pub listened_of : List PortValue → PortValue → Option OrderValue
listened_of others p = if is_open others p then None else Some (listened p)

abbrev pub port_orders_between : List PortValue → List PortValue → List OrderValue
port_orders_between old new = filter_map (closed new) old ++ filter_map (listened_of old) new

-- ---- what orders leave alone

-- both setups have the same of these calls
abbrev pub SameCalls : (SourceValue → Bool) → List SourceValue → List SourceValue → Type 0
SameCalls p old new = (c : SourceValue) → p c ≡ true → is_called old c ≡ is_called new c

-- an order about this source
abbrev pub is_about : ℕ → OrderValue → Bool
is_about s (undialled t) = t == s
is_about s (dialled c) = c.rules.source == s
is_about s t = false

-- both setups have the same of these ports
abbrev pub SamePorts : (PortValue → Bool) → List PortValue → List PortValue → Type 0
SamePorts p old new = (o : PortValue) → p o ≡ true → is_open old o ≡ is_open new o

-- an order about this subscriber
abbrev pub is_of : ℕ → OrderValue → Bool
is_of u (unlistened v) = v == u
is_of u (listened p) = p.rules.sub == u
is_of u t = false
