use Rattle.std.proofs.Common.{arith}
use Rattle.pg_status.specs.Stations.{shown}
use Rattle.pg_status.proofs.Names.{byte_more}
use Rattle.pg_status.proofs.station.shown_name.Goals as goal

pub loop-byte-preserved : goal.loop-byte-preserved
loop-byte-preserved c = rw (c.shown.ensures) (byte_more shown _ c.loop-byte.byte-items c.loop-byte.byte-index _ (omega arith) c.loop-byte.invariant)
