use Rattle.std.proofs.Common.{◌+◌, ◌&&◌, nat_eq, nat_le, if◌then◌else◌, length}
use Rattle.pg_wire.specs.Stream.{joined}
use Rattle.pg_outcfg.specs.Ordered.{blocks_in}
use Rattle.pg_outcfg.proofs.data.data_frame_at_once.Given as goal

-- no frame was composed yet at the size that was counted
abbrev pub decreases-loop-near : goal.decreases-loop-near
decreases-loop-near l = if nat_eq l.near (16 + length (joined (blocks_in l.frame l.order))) && nat_le l.near 12752 then 0 else 1
