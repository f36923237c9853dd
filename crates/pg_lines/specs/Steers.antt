-- Lines by which an operator steers the sources and ports of the running service.
use Rattle.std.specs.Prelude.{ℕ, List, [], ◌∷◌, Option, Some, None, option_map, option_and_then, codes, find}
use Rattle.std.specs.Net.Addr.{ipv4_bits}
use Rattle.std.specs.Str.{bytes_eq}
use Rattle.pg_lines.specs.declared.steer.Steer.{Steer}
use Rattle.pg_lines.specs.declared.steer.Steer.TheVariants as steer
use Rattle.pg_lines.specs.declared.steer.Way.{Way}
use Rattle.pg_lines.specs.declared.steer.Way.TheVariants as way
use Rattle.pg_lines.specs.Words.{Text, pmu_id_in, subscriber_in}
use Rattle.pg_lines.specs.Lines.{words_of, one, two}
use Rattle.pg_lines.specs.Addresses.{Endpoint, endpoint, endpoint_in, host_in, port_in}

-- a source is called at an address, or no longer; a port on a host is opened for a subscriber, or closed; who is connected is hung up
pub data Steering : Type 0 where
  dials : ℕ → Endpoint → Steering
  undials : ℕ → Steering
  listens : ℕ → Endpoint → Steering
  unlistens : ℕ → Steering
  disconnects : ℕ → Steering

-- the same, of a line that was read
abbrev pub steering : Steer → Steering
steering (steer.Dial source address) = dials source (endpoint address)
steering (steer.Undial source) = undials source
steering (steer.Listen u port host) = listens u (ipv4_bits host, port)
steering (steer.Unlisten u) = unlistens u
steering (steer.Disconnect u) = disconnects u

-- the first words, as they are written
abbrev pub ways : List (Text × Way)
ways =
    (codes "dial", way.Dial) ∷ (codes "undial", way.Undial) ∷ (codes "listen", way.Listen) ∷ (codes "unlisten", way.Unlisten)
    ∷ (codes "disconnect", way.Disconnect) ∷ []

abbrev pub way_of : Text → Option Way
way_of w = option_map (λ row. row.1) (find (λ row. bytes_eq row.0 w) ways)

-- A.B.C.D, or without it 0.0.0.0
abbrev pub bound_in : List Text → Option ℕ
bound_in [] = Some 0
bound_in (w ∷ []) = host_in w
bound_in _ = None

-- `U PORT` and `U PORT A.B.C.D`
abbrev pub listen : List Text → Option Steering
listen (u ∷ port ∷ rest) = option_and_then (λ id. option_and_then (λ p. option_map (λ host. listens id (host, p)) (bound_in rest)) (port_in port)) (subscriber_in u)
listen _ = None

-- what a first word makes of the words after it
abbrev pub steer_by : Way → List Text → Option Steering
steer_by way.Dial ws = option_map (λ p. dials p.0 p.1) (two pmu_id_in endpoint_in ws)
steer_by way.Undial ws = option_map undials (one pmu_id_in ws)
steer_by way.Listen ws = listen ws
steer_by way.Unlisten ws = option_map unlistens (one subscriber_in ws)
steer_by way.Disconnect ws = option_map disconnects (one subscriber_in ws)

abbrev pub steer_of_words : List Text → Option Steering
steer_of_words [] = None
steer_of_words (word ∷ ws) = option_and_then (λ w. steer_by w ws) (way_of word)

-- what a line steers, or none
abbrev pub steer_of : Text → Option Steering
steer_of line = steer_of_words (words_of line)
