use Rattle.std.proofs.Common.{◌+◌, ◌*◌, ◌/◌, ◌^◌}
use Rattle.pg_wire.specs.Check.{IsRemainder}
use Rattle.pg_wire.proofs.crc_shift.carried.Given as goal

abbrev pub invariant-loop-chunk : goal.invariant-loop-chunk
invariant-loop-chunk l = IsRemainder (l.number * 2 ^ (64 * l._chunk)) l.crc

abbrev pub invariant-loop-byte : goal.invariant-loop-byte
invariant-loop-byte l = IsRemainder (l.number * 2 ^ (64 * (l.bytes / 8) + 8 * l._byte)) l.crc
