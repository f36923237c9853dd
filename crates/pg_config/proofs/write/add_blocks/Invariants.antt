use Rattle.std.proofs.Common.{◌≡◌, ◌+◌, ◌++◌, ◌≤◌, length, map, drop, vec_len, vec_capacity}
use Rattle.std.specs.Arc.{arc_value}
use Rattle.pg_wire.specs.Stream.{joined}
use Rattle.pg_config.specs.Writing.{block_with_count}
use Rattle.pg_config.proofs.write.add_blocks.Given as goal

abbrev pub invariant-loop-part : goal.invariant-loop-part
invariant-loop-part l = record {
  bytes : l.frame.items ++ joined (map (block_with_count l.count) (drop l.part-index (map arc_value l.parts))) ≡ l.fn.frame.items ++ joined (map (block_with_count l.count) (map arc_value l.parts));
  room : vec_capacity l.fn.frame ≤ vec_capacity l.frame;
  fits : vec_len l.frame + length (joined (map (block_with_count l.count) (drop l.part-index (map arc_value l.parts)))) ≤ vec_capacity l.frame;
}
