-- From the bytes of a data frame to the event that it is; and inputs whose data frames differ in blocks that a subscriber is not
-- granted.
use Rattle.std.specs.Prelude.{◌≡◌, ℕ, Bool, true, false, nat_eq, List, [], ◌∷◌, map, reverse, slice_get, slice_index_or, Option, Some, None}
use Rattle.std.specs.Map.{lookup}
use Rattle.pg_wire.specs.declared.ids.PmuKey.{PmuKey}
use Rattle.pg_wire.specs.Split.{frames_in, rest_in}
use Rattle.pg_config.specs.Parts.{Part, Source}
use Rattle.pg_entitle.specs.Grants.{has_key}
use Rattle.pg_data.specs.Measurements.{Measurement, block_of}
use Rattle.pg_data.specs.Reading.{SpellsData}
use Rattle.pg_session.specs.Events.{key_in}
use Rattle.pg_session.specs.Shown.{Model}
use Rattle.pg_ingest.specs.Items.{announced_last, told_back}
use Rattle.pg_ingest.specs.Shown.{LinkPast}
use Rattle.pg_gateway.specs.GatewayEvents.{measure}
use Rattle.pg_gateway.specs.State.{own_of}
use Rattle.pg_serve.specs.Inputs.{InputValue, pmu_bytes}
use Rattle.pg_serve.specs.WorldStates.{SourceLinkPast, WorldState, opening, after_turn}
use Rattle.pg_serve.specs.Full.{full_turn, world_state_of, events_at}

-- the configuration that a link's source announced last, by all frames of its connection
abbrev pub announced_by : LinkPast → Option Source
announced_by past = announced_last (told_back past.source (reverse (frames_in past.stream)))

-- At this state the source has a link, its bytes end where a frame ends, and it announced this configuration last.
pub record Awaits (m : WorldState) (source : ℕ) (config : Source) : Type 0 where
  pub line : SourceLinkPast
  pub found : lookup (nat_eq source) m.lines ≡ Some line
  pub between : rest_in line.link.stream ≡ []
  pub known : announced_by line.link ≡ Some config

-- A data frame with a right check, by the configuration of its link, is one event: the measurement that its bytes spell. And this has
-- just the frame's blocks.
pub record FramesAreEvents : Type 0 where
  pub events : (inputs : List InputValue) (source : ℕ) (config : Source) (frame : List ℕ) (m : Measurement)
      → Awaits (world_state_of inputs) source config → SpellsData frame config m → events_at inputs (pmu_bytes source frame) ≡ measure m ∷ []
  pub blocks : (config : Source) (frame : List ℕ) (m : Measurement) (spelled : SpellsData frame config m) (i : ℕ)
      → block_of m i ≡ slice_index_or spelled.blocks i []

-- ---- frames that differ in blocks which a subscriber is not granted

-- the subscriber that is so is granted this PMU
abbrev pub is_granted : Option Model → PmuKey → Bool
is_granted None key = false
is_granted (Some p) key = has_key p.grants key

-- At this state both are data frames by the configuration of the source's link, and they differ in nothing but blocks of PMUs that u
-- is not granted: SOC, quality and numerator are the same, and so is the block of each PMU that it is granted.
pub record DifferUngranted (u : ℕ) (m : WorldState) (source : ℕ) (config : Source) (frame another : List ℕ) : Type 0 where
  pub awaits : Awaits m source config
  pub mine : Measurement
  pub other : Measurement
  pub spelled : SpellsData frame config mine
  pub spelled_other : SpellsData another config other
  pub soc : mine.soc ≡ other.soc
  pub quality : mine.quality ≡ other.quality
  pub frac : mine.frac ≡ other.frac
  pub blocks : (i : ℕ) (part : Part) → slice_get config.parts i ≡ Some part → is_granted (own_of u m.shared) (key_in config part) ≡ true
      → block_of mine i ≡ block_of other i

-- an input to each of two worlds
pub data Given : Type 0 where
  -- the same to both
  same : InputValue → Given
  -- a data frame of a source, by this configuration: these bytes to the one, those to the other
  frames : ℕ → Source → List ℕ → List ℕ → Given

abbrev pub mine_at : Given → InputValue
mine_at (same f) = f
mine_at (frames source config frame another) = pmu_bytes source frame

abbrev pub other_at : Given → InputValue
other_at (same f) = f
other_at (frames source config frame another) = pmu_bytes source another

abbrev pub DifferAt : ℕ → WorldState → Given → Type 0
DifferAt u m (same f) = Unit {0}
DifferAt u m (frames source config frame another) = DifferUngranted u m source config frame another

-- So they differ one after another, from this state of the one world.
abbrev pub DifferFrom : ℕ → WorldState → List Given → Type 0
DifferFrom u m [] = Unit {0}
DifferFrom u m (x ∷ xs) = DifferAt u m x × DifferFrom u (after_turn m (full_turn m (mine_at x))) xs

-- Two lists of inputs that are the same, but for the bytes of data frames which differ in blocks that u is not granted.
pub record SameButUngranted (u : ℕ) (inputs others : List InputValue) : Type 0 where
  pub given : List Given
  pub mine : map mine_at given ≡ inputs
  pub other : map other_at given ≡ others
  pub differ : DifferFrom u opening given
