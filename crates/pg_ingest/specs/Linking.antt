-- What a link holds.
use Rattle.std.specs.Prelude.{ℕ, List, [], ◌∷◌, Option, None}
use Rattle.pg_wire.specs.declared.refusal.Refusal.{Refusal}
use Rattle.pg_wire.specs.declared.refusal.Refusal.TheVariants.{WrongType}
use Rattle.pg_wire.specs.Number.{number_of}
use Rattle.pg_wire.specs.Stream.{Deframing, fresh, fed}
use Rattle.pg_config.specs.Parts.{Source}
use Rattle.pg_audit.specs.declared.counters.PmuStats.{PmuStats}
use Rattle.pg_audit.specs.Counting.{more, counted, no_pmu_stats}
use Rattle.pg_ingest.specs.declared.asking.Asking.{Asking}
use Rattle.pg_ingest.specs.Items.{Item, announces, measures, skips, rejects_config, rejects_data, passes_over, known_after}
use Rattle.pg_ingest.specs.Asked.{asking_of, asking_after, owed_count}

-- an event that is given counts as taken
abbrev pub taking : PmuStats → PmuStats
taking stats = record stats { taken = more stats.taken 1 }

-- a frame that is ignored counts under its reason
abbrev pub ignoring : PmuStats → Refusal → PmuStats
ignoring stats r = record stats { by_reason = counted stats.by_reason (number_of r) }

abbrev pub with_link_item : PmuStats → Item → PmuStats
with_link_item stats (announces config) = taking stats
with_link_item stats (measures m) = taking stats
with_link_item stats (skips r) = ignoring stats r
with_link_item stats (rejects_config r) = ignoring stats r
with_link_item stats (rejects_data r) = ignoring stats r
with_link_item stats passes_over = ignoring stats WrongType

abbrev pub with_link_items : PmuStats → List Item → PmuStats
with_link_items stats [] = stats
with_link_items stats (item ∷ items) = with_link_items (with_link_item stats item) items

abbrev pub link_stats : List Item → PmuStats
link_stats items = with_link_items no_pmu_stats items

-- What a link holds: its source, the bytes of a frame that has begun, the configuration announced last, what it asks its
-- source for, and its counters.
pub record Linking : Type 0 where
  pub source : ℕ
  pub bytes : Deframing
  pub known : Option Source
  pub asking : Asking
  pub stats : PmuStats
  pub left : List ℕ

-- a link that was fed nothing, with these counters
abbrev pub unfed : ℕ → PmuStats → Linking
unfed source stats = record { source = source; bytes = fresh; known = None; asking = asking_of []; stats = stats; left = [] }

abbrev pub heard : Linking → List ℕ → Linking
heard v piece = record v { bytes = fed v.bytes piece }

-- after it told an item
abbrev pub after_item : Linking → Item → Linking
after_item v item = record v { known = known_after v.known item; asking = asking_after v.asking item; stats = with_link_item v.stats item }

-- how many commands are owed
abbrev pub words_owed : Linking → ℕ
words_owed v = owed_count v.asking
