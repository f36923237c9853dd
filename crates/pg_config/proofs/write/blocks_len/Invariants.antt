use Rattle.std.proofs.Common.{◌≡◌, ℕ, ◌+◌, ◌*◌, ◌≤◌, length, map, drop}
use Rattle.std.specs.Arc.{arc_value}
use Rattle.pg_wire.specs.Stream.{joined}
use Rattle.pg_config.specs.Writing.{block_with_count}
use Rattle.pg_config.proofs.write.blocks_len.Given as goal

abbrev pub invariant-loop-part : goal.invariant-loop-part
invariant-loop-part l = record {
  small : l.len ≤ 2000 * l.part-index;
  counted : (count : ℕ) → l.len + length (joined (map (block_with_count count) (drop l.part-index (map arc_value l.parts)))) ≡ length (joined (map (block_with_count count) (map arc_value l.parts)));
}
