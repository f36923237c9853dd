-- What a setup file asks for, by its table.
use Rattle.std.specs.Prelude.{ℕ, ◌==◌, ◌&&◌, ◌++◌, Bool, true, false, not, pos, List, [], ◌∷◌, length, map, filter, find, Option, Some, None, option_map, option_and_then, option_to_list, if◌then◌else◌, nat_lt, nat_le, codes, string_bytes}
use Rattle.std.specs.List.{filter_map, list_all, list_any}
use Rattle.std.specs.Net.Addr.{ipv4_bits}
use Rattle.std.specs.Option.{option_map_or, unwrap_or}
use Rattle.std.specs.Str.{bytes_eq}
use Rattle.toml.specs.Data.{Data, string, integer, boolean, array, table, Items, no_items, item, Members, no_members, member, get_member}
use Rattle.toml.specs.Parse.{parse_document}
use Rattle.toml.specs.View.{view}
use Rattle.pg_wire.specs.declared.ids.PmuKey.{PmuKey}
use Rattle.pg_stream.specs.declared.definition.Definition.{Definition}
use Rattle.pg_gateway.specs.declared.edit.Edit.{Edit}
use Rattle.pg_gateway.specs.declared.edit.Edit.TheVariants.{AddPmu, AddSub, Grant, Define}
use Rattle.pg_limits.specs.Hosts.{Net}
use Rattle.pg_limits.specs.declared.layouts.OnChange.{OnChange}
use Rattle.pg_limits.specs.declared.layouts.OnChange.TheVariants as on_change
use Rattle.pg_operator.specs.declared.address.CalledAddresses.{CalledAddresses}
use Rattle.pg_operator.specs.declared.address.CalledAddresses.TheVariants as called_at
use Rattle.pg_operator.specs.declared.port_rules.PortRules.{PortRules}
use Rattle.pg_operator.specs.declared.port_rules.PortSetup.{PortSetup}
use Rattle.pg_operator.specs.declared.general.GeneralKeys.{GeneralKeys}
use Rattle.pg_operator.specs.declared.general.LogLevel.{LogLevel}
use Rattle.pg_operator.specs.declared.general.LogLevel.TheVariants as level
use Rattle.pg_operator.specs.declared.pmu.PmuTable.{PmuTable}
use Rattle.pg_operator.specs.declared.setup.Setup.{Setup}
use Rattle.pg_operator.specs.declared.setup.SubscriberSetup.{SubscriberSetup}
use Rattle.pg_operator.specs.declared.source.SourceRules.{SourceRules}
use Rattle.pg_operator.specs.declared.source.SourceSetup.{SourceSetup}
use Rattle.pg_lines.specs.Words.{Text, key_of, pair_in}
use Rattle.pg_lines.specs.Addresses.{Endpoint, endpoint, endpoint_in, host_in}
use Rattle.pg_operator.specs.Addresses.{AddressValue, address_of, address_value, called_value, network_in}

-- ---- tables

abbrev pub is_among : List Text → Text → Bool
is_among names key = list_any (λ name. bytes_eq name key) names

-- each key is one of these
abbrev pub keys_within : List Text → Members → Bool
keys_within names no_members = true
keys_within names (member k d ms) = is_among names k && keys_within names ms

-- a table with these keys and no other
abbrev pub only : {X : Type 0} → List Text → (Members → Option X) → Members → Option X
only names read ms = if keys_within names ms then read ms else None

-- a key that has to be there; one that may be left out; one with no value where it is left out
abbrev pub required : {X : Type 0} → (Data → Option X) → Text → Members → Option X
required read key ms = option_and_then read (get_member key ms)

abbrev pub optional : {X : Type 0} → X → (Data → Option X) → Text → Members → Option X
optional otherwise read key ms = option_map_or read (get_member key ms) (Some otherwise)

abbrev pub absent_or : {X : Type 0} → (Data → Option X) → Text → Members → Option (Option X)
absent_or read key ms = optional None (λ d. option_map Some (read d)) key ms

-- each item, in order
abbrev pub each : {X : Type 0} → (Data → Option X) → Items → Option (List X)
each read no_items = Some []
each read (item d ds) = option_and_then (λ x. option_map (λ xs. x ∷ xs) (each read ds)) (read d)

abbrev pub list_of : {X : Type 0} → (Data → Option X) → Data → Option (List X)
list_of read (array ds) = each read ds
list_of read _ = None

-- ---- values

-- a whole number in its range
abbrev pub whole_in : ℕ → ℕ → Data → Option ℕ
whole_in least most (integer (pos n)) = if nat_le least n && nat_le n most then Some n else None
whole_in least most _ = None

-- a key: a number P, which is P/P, or the text "S/P"
abbrev pub key_in : Data → Option PmuKey
key_in (string s) = pair_in s
key_in d = option_map (λ n. key_of n n) (whole_in 1 65534 d)

abbrev pub address_in : Data → Option AddressValue
address_in (string s) = address_of s
address_in _ = None

-- 1 to 4 addresses
abbrev pub few_in : Items → Option (List AddressValue)
few_in ds = option_and_then (λ many. if nat_le 1 (length many) && nat_le (length many) 4 then Some many else None) (each address_in ds)

-- the addresses of a source: one, or a list of 1 to 4
abbrev pub addresses_in : Data → Option (List AddressValue)
addresses_in (array ds) = few_in ds
addresses_in d = option_map (λ a. a ∷ []) (address_in d)

-- the same, of addresses that were read
abbrev pub called_values : CalledAddresses → List AddressValue
called_values (called_at.One a) = called_value a ∷ []
called_values (called_at.List vs) = filter_map (λ v. address_in (view v)) vs.now

abbrev pub host_text_in : Data → Option ℕ
host_text_in (string s) = host_in s
host_text_in _ = None

abbrev pub network_text_in : Data → Option Net
network_text_in (string s) = network_in s
network_text_in _ = None

abbrev pub text_in : Data → Option Text
text_in (string s) = Some s
text_in _ = None

abbrev pub endpoint_text_in : Data → Option Endpoint
endpoint_text_in (string s) = endpoint_in s
endpoint_text_in _ = None

abbrev pub boolean_in : Data → Option Bool
boolean_in (boolean b) = Some b
boolean_in _ = None

-- ---- `[[pmu]]`: its key, the addresses of its source, and what it says of its source

pub record Pmu : Type 0 where
  pub key : PmuKey
  pub connect : Option (List AddressValue)
  pub prefer_first : Option Bool
  pub silence : Option ℕ
  pub clock_ms : Option ℕ
  pub ahead_ms : Option ℕ

-- the same, of a table that was read
abbrev pub told : PmuTable → Pmu
told p = record { key = p.key; connect = option_map called_values p.connect; prefer_first = p.prefer_first; silence = p.silence; clock_ms = p.clock_ms; ahead_ms = p.ahead_ms }

abbrev pub pmu_by : Members → Option Pmu
pmu_by ms =
    option_and_then (λ id. option_and_then (λ source. option_and_then (λ connect. option_and_then (λ first. option_and_then (λ silence. option_and_then (λ clock. option_map
    (λ ahead. record { key = key_of source id; connect = connect; prefer_first = first; silence = silence; clock_ms = clock; ahead_ms = ahead })
    (absent_or (whole_in 0 30000) (codes "ahead_ms") ms))
    (absent_or (whole_in 1 30000) (codes "clock_ms") ms))
    (absent_or (whole_in 0 3600) (codes "silence") ms))
    (absent_or boolean_in (codes "prefer_first") ms))
    (absent_or addresses_in (codes "connect") ms))
    (optional id (whole_in 1 65534) (codes "source") ms))
    (required (whole_in 1 65534) (codes "id") ms)

abbrev pub pmu_names : List Text
pmu_names = codes "id" ∷ codes "source" ∷ codes "connect" ∷ codes "prefer_first" ∷ codes "silence" ∷ codes "clock_ms" ∷ codes "ahead_ms" ∷ []

abbrev pub pmu_in : Data → Option Pmu
pmu_in (table ms) = only pmu_names pmu_by ms
pmu_in _ = None

-- ---- the sources

-- each number once, where it first stands
abbrev pub once : List ℕ → List ℕ
once [] = []
once (x ∷ xs) = x ∷ filter (λ y. not (x == y)) (once xs)

-- what the tables of a source say at a key
abbrev pub said : {X : Type 0} → (Pmu → Option X) → ℕ → List Pmu → List X
said key source [] = []
said key source (p ∷ pmus) = if p.key.source == source then option_to_list (key p) ++ said key source pmus else said key source pmus

-- one value that all say, or nothing where none says any; no two may differ
abbrev pub agreed : List ℕ → Option (Option ℕ)
agreed [] = Some None
agreed (v ∷ vs) = if list_all (λ w. w == v) vs then Some (Some v) else None

-- a truth value as a number
abbrev pub bit : Bool → ℕ
bit true = 1
bit false = 0

-- a source is silent after 10 seconds, has no clock guard, may be 200 milliseconds ahead, and does not go back to its first address, where
-- its tables say nothing of it
abbrev pub rules_of : List Pmu → ℕ → Option SourceRules
rules_of pmus source =
    option_and_then (λ silence. option_and_then (λ clock. option_and_then (λ ahead. option_map
    (λ first. record { source = source; silence = unwrap_or silence 10; clock_ms = clock; ahead_ms = unwrap_or ahead 200; prefer_first = option_map_or (λ b. b == 1) first false })
    (agreed (said (λ p. option_map bit p.prefer_first) source pmus)))
    (agreed (said (λ p. p.ahead_ms) source pmus)))
    (agreed (said (λ p. p.clock_ms) source pmus)))
    (agreed (said (λ p. p.silence) source pmus))

abbrev pub every : {X Y : Type 0} → (X → Option Y) → List X → Option (List Y)
every read [] = Some []
every read (x ∷ xs) = option_and_then (λ y. option_map (λ ys. y ∷ ys) (every read xs)) (read x)

-- where a source is connected to, which is nowhere where there is no address, and how it is watched
pub record SourceValue : Type 0 where
  pub connect : List AddressValue
  pub rules : SourceRules

-- the same, of a source that was read
abbrev pub source_value : SourceSetup → SourceValue
source_value s = record { connect = map address_value s.connect.items; rules = s.rules }

-- the one value that there is, or nothing where there is none; there may not be two
abbrev pub single : {X : Type 0} → List X → Option (Option X)
single [] = Some None
single (x ∷ []) = Some (Some x)
single (x ∷ y ∷ ys) = None

abbrev pub source_by : List Pmu → ℕ → Option SourceValue
source_by pmus source =
    option_and_then (λ connect. option_map (λ rules. record { connect = unwrap_or connect []; rules = rules }) (rules_of pmus source)) (single (said (λ p. p.connect) source pmus))

-- in the order in which the PMUs first name them
abbrev pub sources_of : List Pmu → Option (List SourceValue)
sources_of pmus = every (source_by pmus) (once (map (λ p. p.key.source) pmus))

-- ---- `[[subscriber.stream]]`

abbrev pub members_in : Data → Option (List PmuKey)
members_in d = option_and_then (λ keys. if nat_le 1 (length keys) && nat_le (length keys) 32 then Some keys else None) (list_of key_in d)

abbrev pub wide : Text → Members → Option ℕ
wide key ms = required (whole_in 0 4294967295) key ms

abbrev pub numbers_in : Members → Option (List ℕ → List PmuKey → Definition)
numbers_in ms =
    option_and_then (λ s. option_and_then (λ r. option_and_then (λ b. option_and_then (λ t. option_map
    (λ w header members. record { stream = s; rate = r; base = b; wait = t; window = w; header = header; members = members })
    (wide (codes "window") ms)) (wide (codes "wait") ms)) (wide (codes "base") ms))
    (required (whole_in 0 255) (codes "rate") ms)) (required (whole_in 1 65534) (codes "id") ms)

abbrev pub stream_by : Members → Option Definition
stream_by ms =
    option_and_then (λ made. option_and_then (λ text. option_map (λ keys. made text keys)
    (required members_in (codes "members") ms))
    (optional [] text_in (codes "header") ms))
    (numbers_in ms)

abbrev pub stream_names : List Text
stream_names = codes "id" ∷ codes "rate" ∷ codes "base" ∷ codes "wait" ∷ codes "window" ∷ codes "header" ∷ codes "members" ∷ []

abbrev pub stream_in : Data → Option Definition
stream_in (table ms) = only stream_names stream_by ms
stream_in _ = None

-- ---- `[[subscriber]]`: its ring, its grants, its streams, and the port that it connects to

-- a subscriber's own values
pub record Entry : Type 0 where
  pub id : ℕ
  pub port : Option ℕ
  pub size : ℕ
  pub bytes : ℕ

abbrev pub entry_by : Members → Option Entry
entry_by ms =
    option_and_then (λ id. option_and_then (λ port. option_and_then (λ size. option_map (λ bytes. record { id = id; port = port; size = size; bytes = bytes })
    (optional 16777216 (whole_in 16 16777216) (codes "bytes") ms))
    (required (whole_in 1 1024) (codes "ring") ms))
    (absent_or (whole_in 1 65535) (codes "port") ms))
    (required (whole_in 1 65535) (codes "id") ms)

-- who may connect to its port, when it is hung up, and what is done where the blocks of a stream change
pub record PortRulesValue : Type 0 where
  pub sub : ℕ
  pub address : ℕ
  pub allow : Option (List Net)
  pub takeover : Bool
  pub stall : ℕ
  pub idle : ℕ
  pub change : OnChange

-- the same, of rules that were read
abbrev pub port_rules_of : PortRules → PortRulesValue
port_rules_of r = record { sub = r.sub; address = ipv4_bits r.address; allow = option_map (λ v. v.items) r.allow.networks; takeover = r.takeover; stall = r.stall; idle = r.idle; change = r.change }

-- what is done where the blocks of a stream change, as it is written
abbrev pub changes : List (Text × OnChange)
changes = (codes "safe", on_change.Safe) ∷ (codes "hangup", on_change.HangUp) ∷ (codes "keep", on_change.Keep) ∷ []

abbrev pub change_of : Text → Option OnChange
change_of w = option_map (λ row. row.1) (find (λ row. bytes_eq row.0 w) changes)

abbrev pub change_in : Data → Option OnChange
change_in (string s) = change_of s
change_in _ = None

-- 0.0.0.0, every host, no takeover, 30 seconds, never, and safe, where it is left out
abbrev pub port_rules_by : ℕ → Members → Option PortRulesValue
port_rules_by id ms =
    option_and_then (λ address. option_and_then (λ takeover. option_and_then (λ stall. option_and_then (λ idle. option_and_then (λ change. option_map
    (λ allow. record { sub = id; address = address; allow = allow; takeover = takeover; stall = stall; idle = idle; change = change })
    (absent_or (list_of network_text_in) (codes "allow") ms))
    (optional on_change.Safe change_in (codes "change") ms))
    (optional 0 (whole_in 0 3600) (codes "idle") ms))
    (optional 30 (whole_in 0 3600) (codes "stall") ms))
    (optional false boolean_in (codes "takeover") ms))
    (optional 0 host_text_in (codes "address") ms)

-- a port, and its rules
pub record PortValue : Type 0 where
  pub port : ℕ
  pub rules : PortRulesValue

abbrev pub port_value : PortSetup → PortValue
port_value p = record { port = p.port; rules = port_rules_of p.rules }

pub record Subscriber : Type 0 where
  pub sub : ℕ
  pub ring : ℕ
  pub bytes : ℕ
  pub grants : List PmuKey
  pub streams : List Definition
  pub port : Option PortValue

-- the same, of a subscriber that was read
abbrev pub subscriber_value : SubscriberSetup → Subscriber
subscriber_value s = record { sub = s.sub; ring = s.ring; bytes = s.bytes; grants = s.grants.items; streams = s.streams.items; port = option_map port_value s.port }

abbrev pub subscriber_by : Members → Option Subscriber
subscriber_by ms =
    option_and_then (λ e. option_and_then (λ rules. option_and_then (λ grants. option_map
    (λ streams. record { sub = e.id; ring = e.size; bytes = e.bytes; grants = grants; streams = streams; port = option_map (λ p. record { port = p; rules = rules }) e.port })
    (optional [] (list_of stream_in) (codes "stream") ms))
    (optional [] (list_of key_in) (codes "grants") ms))
    (port_rules_by e.id ms)) (entry_by ms)

abbrev pub subscriber_names : List Text
subscriber_names =
    codes "id" ∷ codes "port" ∷ codes "ring" ∷ codes "bytes" ∷ codes "grants" ∷ codes "stream"
    ∷ codes "address" ∷ codes "allow" ∷ codes "takeover" ∷ codes "stall" ∷ codes "idle" ∷ codes "change" ∷ []

abbrev pub subscriber_in : Data → Option Subscriber
subscriber_in (table ms) = only subscriber_names subscriber_by ms
subscriber_in _ = None

-- ---- the file's own keys: how the service runs

-- the levels of the log, as they are written
abbrev pub levels : List (Text × LogLevel)
levels = (codes "error", level.Error) ∷ (codes "warn", level.Warn) ∷ (codes "info", level.Info) ∷ (codes "debug", level.Debug) ∷ []

abbrev pub level_of : Text → Option LogLevel
level_of w = option_map (λ row. row.1) (find (λ row. bytes_eq row.0 w) levels)

abbrev pub level_in : Data → Option LogLevel
level_in (string s) = level_of s
level_in _ = None

-- the path of a socket: 1 to 107 bytes, of which none is zero
abbrev pub is_path : Text → Bool
is_path w = (nat_lt 0 (length w) && nat_le (length w) 107) && list_all (λ b. not (b == 0)) w

abbrev pub path_in : Data → Option Text
path_in (string s) = if is_path s then Some s else None
path_in _ = None

-- the gateway's name: 1 to 64 printable ASCII characters
abbrev pub is_printable : ℕ → Bool
is_printable b = nat_le 32 b && nat_le b 126

abbrev pub is_gateway_name : Text → Bool
is_gateway_name w = (nat_lt 0 (length w) && nat_le (length w) 64) && list_all is_printable w

abbrev pub name_in : Data → Option Text
name_in (string s) = if is_gateway_name s then Some s else None
name_in _ = None

pub record General : Type 0 where
  pub tick_ms : ℕ
  pub ingest : ℕ
  pub serve : ℕ
  pub log : LogLevel
  pub control : Option Text
  pub status : Option Endpoint
  pub name : Option Text
  pub record_folder : Option Text
  pub record_mb : ℕ
  pub record_hours : ℕ

-- the same, of keys that were read
abbrev pub general_of : GeneralKeys → General
general_of g = record {
  tick_ms = g.tick_ms;
  ingest = g.ingest;
  serve = g.serve;
  log = g.log;
  control = option_map (λ s. s.now) g.control;
  status = option_map endpoint g.status;
  name = option_map (λ s. s.now) g.name;
  record_folder = option_map (λ s. s.now) g.record_folder;
  record_mb = g.record_mb;
  record_hours = g.record_hours;
}

-- 10 milliseconds, one thread each, the level info, no socket, no page, no name and no recording, of 4,000 MB and 168 hours, where it is left out
abbrev pub general_by : Members → Option General
general_by ms =
    option_and_then (λ tick. option_and_then (λ ingest. option_and_then (λ serve. option_and_then (λ log. option_and_then (λ control. option_and_then (λ status. option_and_then (λ name. option_and_then (λ folder. option_and_then (λ mb. option_map
    (λ hours. record { tick_ms = tick; ingest = ingest; serve = serve; log = log; control = control; status = status; name = name; record_folder = folder; record_mb = mb; record_hours = hours })
    (optional 168 (whole_in 1 100000) (codes "record_hours") ms))
    (optional 4000 (whole_in 16 10000000) (codes "record_mb") ms))
    (absent_or path_in (codes "record") ms))
    (absent_or name_in (codes "name") ms))
    (absent_or endpoint_text_in (codes "status") ms))
    (absent_or path_in (codes "control") ms))
    (optional level.Info level_in (codes "log") ms))
    (optional 1 (whole_in 1 8) (codes "serve") ms))
    (optional 1 (whole_in 1 8) (codes "ingest") ms))
    (optional 10 (whole_in 1 1000) (codes "tick_ms") ms)

-- ---- the file

-- a subscriber is added, then its grants, then its streams
abbrev pub subscriber_edits : Subscriber → List Edit
subscriber_edits s = AddSub s.sub s.ring s.bytes ∷ map (Grant s.sub) s.grants ++ map (Define s.sub) s.streams

abbrev pub edits_of : List Subscriber → List Edit
edits_of [] = []
edits_of (s ∷ ss) = subscriber_edits s ++ edits_of ss

-- the PMUs in the file's order, then each subscriber's edits
abbrev pub edits_by : List PmuKey → List Subscriber → List Edit
edits_by pmus subscribers = map AddPmu pmus ++ edits_of subscribers

-- the same, of a setup that was read
abbrev pub setup_edits : Setup → List Edit
setup_edits s = edits_by s.pmus.items (map subscriber_value s.subscribers.items)

pub record Settings : Type 0 where
  pub pmus : List PmuKey
  pub sources : List SourceValue
  pub subscribers : List Subscriber
  pub general : General

-- the same, of a setup that was read
abbrev pub settings : Setup → Settings
settings s = record {
  pmus = s.pmus.items;
  sources = map source_value s.sources.items;
  subscribers = map subscriber_value s.subscribers.items;
  general = record {
    tick_ms = s.tick_ms;
    ingest = s.ingest;
    serve = s.serve;
    log = s.log;
    control = option_map (λ path. string_bytes path) s.control;
    status = option_map endpoint s.status;
    name = option_map (λ name. string_bytes name) s.name;
    record_folder = option_map (λ path. string_bytes path) s.record_folder;
    record_mb = s.record_mb;
    record_hours = s.record_hours;
  };
}

abbrev pub setup_by : Members → Option Settings
setup_by ms =
    option_and_then (λ general. option_and_then (λ pmus. option_and_then (λ sources. option_map
    (λ subscribers. record { pmus = map (λ p. p.key) pmus; sources = sources; subscribers = subscribers; general = general })
    (required (list_of subscriber_in) (codes "subscriber") ms))
    (sources_of pmus))
    (required (list_of pmu_in) (codes "pmu") ms))
    (general_by ms)

abbrev pub top_names : List Text
top_names =
    codes "tick_ms" ∷ codes "ingest" ∷ codes "serve" ∷ codes "log" ∷ codes "control" ∷ codes "status" ∷ codes "name" ∷ codes "record" ∷ codes "record_mb" ∷ codes "record_hours" ∷ codes "pmu" ∷ codes "subscriber" ∷ []

abbrev pub setup_in : Members → Option Settings
setup_in = only top_names setup_by

-- what a file asks for, or nothing
abbrev pub setup_of : Text → Option Settings
setup_of text = option_and_then setup_in (parse_document text)

-- ---- the edits alone, whatever the tables of one source say together

abbrev pub asked_by : Members → Option (List Edit)
asked_by ms =
    option_and_then (λ general. option_and_then (λ pmus. option_map
    (λ subscribers. edits_by (map (λ p. p.key) pmus) subscribers)
    (required (list_of subscriber_in) (codes "subscriber") ms))
    (required (list_of pmu_in) (codes "pmu") ms))
    (general_by ms)

abbrev pub asked_in : Members → Option (List Edit)
asked_in = only top_names asked_by

abbrev pub asked_of : Text → Option (List Edit)
asked_of text = option_and_then asked_in (parse_document text)
