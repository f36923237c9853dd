-- What a call of a link leaves held.
use Rattle.std.proofs.Common.{◌<◌, length}
use Rattle.pg_ingest.specs.declared.link.LinkEvent.{LinkEvent}
use Rattle.pg_ingest.specs.declared.link.LinkEvent.TheVariants.{Announce, Measure, Ignored, Ended, More}
use Rattle.pg_ingest.specs.Items.{Item}
use Rattle.pg_ingest.specs.Linking.{Linking}
use Rattle.pg_ingest.specs.Links.{IsEventOf, Holds}

pub holds_fewer : (old new : Linking) (event : LinkEvent) (item : Item) → IsEventOf event item → length new.bytes.held < length old.bytes.held → Holds old event new
holds_fewer old new (Announce config) item is fewer = fewer
holds_fewer old new (Measure frame) item is fewer = fewer
holds_fewer old new (Ignored r) item is fewer = fewer
holds_fewer old new (Ended r) item is fewer = absurd is
holds_fewer old new More item is fewer = absurd is
