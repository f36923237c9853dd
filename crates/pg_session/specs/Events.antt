-- The private events: all that a private gateway is told, wherever it lies in memory.
use Rattle.std.specs.Prelude.{ℕ, List, [], ◌∷◌, Option, Some, None, length, slice_get, option_map}
use Rattle.std.specs.List.{flat_map}
use Rattle.std.specs.Arc.{arc_value}
use Rattle.pg_wire.specs.declared.ids.PmuKey.{PmuKey}
use Rattle.pg_config.specs.Parts.{Part, Source, block_id}
use Rattle.pg_data.specs.Measurements.{Measurement, block_of}
use Rattle.pg_stream.specs.declared.definition.Definition.{Definition}
use Rattle.pg_session.specs.declared.event.PrivateEvent.{PrivateEvent}
use Rattle.pg_session.specs.declared.event.PrivateEvent.TheVariants as private

-- a PMU's configuration, as it is announced
pub record Announcing : Type 0 where
  pub key : PmuKey
  pub config : Part

abbrev pub config_of : Announcing → Part
config_of a = a.config

-- a PMU's data block, with the configuration by which it was read
pub record Sample : Type 0 where
  pub key : PmuKey
  pub config : Part
  pub block : List ℕ

pub data SubscriberEvent : Type 0 where
  -- a PMU is granted, and what it has announced by then, or nothing
  grant : PmuKey → Option Part → SubscriberEvent
  revoke : PmuKey → SubscriberEvent
  -- granted PMUs announce their configurations, in the frame's order
  announce : List Announcing → SubscriberEvent
  -- granted PMUs were measured: the frame's SOC, quality and numerator, and their blocks in the frame's order
  measure : ℕ → ℕ → ℕ → List Sample → SubscriberEvent
  define : Definition → SubscriberEvent
  -- a stream is removed, by its number
  remove : ℕ → SubscriberEvent
  -- a tick, with its SOC
  tick : ℕ → SubscriberEvent
  connect : SubscriberEvent
  hangup : SubscriberEvent
  -- a command, by its stream number and its word
  command : ℕ → ℕ → SubscriberEvent
  -- a drain into a buffer of this length
  drain : ℕ → SubscriberEvent

-- the key of a source's PMU
abbrev pub key_in : Source → Part → PmuKey
key_in config part = record { source = config.source; pmu = block_id part.block }

-- what PMU i of a configuration announces, where it has that many
abbrev pub announced_part : Source → Option Part → List Announcing
announced_part config None = []
announced_part config (Some part) = record { key = key_in config part; config = part } ∷ []

abbrev pub announced_at : Source → List ℕ → List Announcing
announced_at config places = flat_map (λ i. announced_part config (slice_get config.parts i)) places

-- what the data frame says of PMU i, where it has that many
abbrev pub sampled_part : Measurement → ℕ → Option Part → List Sample
sampled_part m i None = []
sampled_part m i (Some part) = record { key = key_in m.config part; config = part; block = block_of m i } ∷ []

abbrev pub samples_at : Measurement → List ℕ → List Sample
samples_at m places = flat_map (λ i. sampled_part m i (slice_get m.config.parts i)) places

-- what an event of the code says
abbrev pub subscriber_event : PrivateEvent → SubscriberEvent
subscriber_event (private.Grant key config) = grant key (option_map (λ c. arc_value c.now) config)
subscriber_event (private.Revoke key) = revoke key
subscriber_event (private.Announce config places) = announce (announced_at config.now places.now)
subscriber_event (private.Measure frame places) =
    measure (arc_value frame.now).soc (arc_value frame.now).quality (arc_value frame.now).frac (samples_at (arc_value frame.now) places.now)
subscriber_event (private.Define definition) = define definition
subscriber_event (private.Remove number) = remove number
subscriber_event (private.Tick soc) = tick soc
subscriber_event private.Connect = connect
subscriber_event private.Hangup = hangup
subscriber_event (private.Command asked) = command asked.stream asked.word
subscriber_event (private.Drain buf) = drain (length buf.items)
