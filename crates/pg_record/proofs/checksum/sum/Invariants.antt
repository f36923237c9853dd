use Rattle.std.proofs.Common.{◌≡◌, drop}
use Rattle.std.specs.List.{fold}
use Rattle.std.specs.Int.{w64, from_le_bytes}
use Rattle.pg_record.specs.Checksums.{with_number, sum_of}
use Rattle.pg_record.proofs.checksum.sum.Given as goal

-- the sum so far, and then over the numbers behind
abbrev pub invariant-loop-chunk : goal.invariant-loop-chunk
invariant-loop-chunk l = fold (λ sum eight. with_number sum (from_le_bytes w64 eight)) l.sum (drop l.chunk-index l.chunks) ≡ fold (λ sum eight. with_number sum (from_le_bytes w64 eight)) 0xcbf29ce484222325 l.chunks

abbrev pub invariant-loop-byte : goal.invariant-loop-byte
invariant-loop-byte l = fold with_number l.sum (drop l.byte-index l.rest) ≡ sum_of l.bytes
