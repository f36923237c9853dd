-- What reading a frame of a source gives its link.
use Rattle.std.specs.Prelude.{◌≡◌, ◌⊎◌, ℕ, List, Option, IsOk}
use Rattle.std.specs.Arc.{arc_value}
use Rattle.pg_wire.specs.declared.refusal.Refusal.TheVariants.{NoMemory}
use Rattle.pg_config.specs.Parts.{Source}
use Rattle.pg_config.specs.Reading.{config_of}
use Rattle.pg_ingest.specs.declared.read_frame.ReadFrame.{ReadFrame}
use Rattle.pg_ingest.specs.declared.read_frame.ReadFrame.TheVariants.{Config, Data, Skipped, BadConfig, BadData, Other}
use Rattle.pg_ingest.specs.Items.{Item, announces, measures, skips, rejects_config, rejects_data, passes_over, config_item, data_item, data_by}

abbrev pub item_read : ReadFrame → Item
item_read (Config kept given) = announces (arc_value given)
item_read (Data frame) = measures (arc_value frame)
item_read (Skipped r) = skips r
item_read (BadConfig r) = rejects_config r
item_read (BadData r) = rejects_data r
item_read Other = passes_over

-- The configuration that the link keeps is the one that it gives away.
abbrev pub IsPaired : ReadFrame → Type 0
IsPaired (Config kept given) = arc_value kept ≡ arc_value given
IsPaired (Data frame) = Unit {0}
IsPaired (Skipped r) = Unit {0}
IsPaired (BadConfig r) = Unit {0}
IsPaired (BadData r) = Unit {0}
IsPaired Other = Unit {0}

-- What a CFG-2 frame is, or want of memory where it reads.
abbrev pub TellsConfig : ℕ → List ℕ → Item → Type 0
TellsConfig source frame item =
    (item ≡ config_item source (config_of frame)) ⊎ ((item ≡ rejects_config NoMemory) × IsOk (config_of frame))

-- What a data frame is, or want of memory where it reads.
abbrev pub TellsData : Option Source → List ℕ → Item → Type 0
TellsData known frame item =
    (item ≡ data_item (data_by known frame)) ⊎ ((item ≡ rejects_data NoMemory) × IsOk (data_by known frame))
