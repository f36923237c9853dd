use Rattle.std.proofs.Common.{◌≡◌, ◌+◌, ◌++◌, ◌≤◌, length, drop, vec_len, vec_capacity}
use Rattle.pg_wire.specs.Check.{IsRemainder, dividend}
use Rattle.pg_wire.specs.Stream.{joined}
use Rattle.pg_outcfg.specs.Ordered.{blocks_in}
use Rattle.pg_outcfg.proofs.data.add_ordered.Given as goal

abbrev pub invariant-loop-place : goal.invariant-loop-place
invariant-loop-place l = record {
  bytes : l.out.items ++ joined (blocks_in l.frame (drop l.place-index l.order)) ≡ l.fn.out.items ++ joined (blocks_in l.frame l.order);
  len : vec_len l.out + length (joined (blocks_in l.frame (drop l.place-index l.order))) ≡ vec_len l.fn.out + length (joined (blocks_in l.frame l.order));
  check : IsRemainder (dividend l.out.items) l.crc;
  room : vec_capacity l.fn.out ≤ vec_capacity l.out;
}
