use Rattle.std.proofs.Common.{◌≡◌, ◌+◌, ◌*◌, ◌≤◌, length, drop}
use Rattle.pg_wire.specs.Stream.{joined}
use Rattle.pg_outcfg.specs.Ordered.{blocks_in}
use Rattle.pg_outcfg.proofs.data.ordered_len.Given as goal

abbrev pub invariant-loop-place : goal.invariant-loop-place
invariant-loop-place l = record {
  small : l.len ≤ 398 * l.place-index;
  counted : l.len + length (joined (blocks_in l.frame (drop l.place-index l.order))) ≡ length (joined (blocks_in l.frame l.order));
}
