use Rattle.std.proofs.Common.{ℕ, List, ◌*◌, ◌++◌, take, length, ◌/◌}
use Rattle.pg_wire.specs.Check.{dividend_from, IsRemainder}
use Rattle.pg_wire.proofs.checksum.check_more.Given as goal

abbrev pub invariant-loop-chunk : goal.invariant-loop-chunk
invariant-loop-chunk l = (start : ℕ) (before : List ℕ) → IsRemainder (dividend_from start before) l.fn.crc
    → IsRemainder (dividend_from start (before ++ take (8 * l.chunk-index) l.bytes)) l.crc

abbrev pub invariant-loop-byte : goal.invariant-loop-byte
invariant-loop-byte l = (start : ℕ) (before : List ℕ) → IsRemainder (dividend_from start before) l.fn.crc
    → IsRemainder (dividend_from start (before ++ (take (8 * (length l.bytes / 8)) l.bytes ++ take l.byte-index l.rest))) l.crc
