use Rattle.std.proofs.Common.{◌≡◌, ◌+◌, ◌++◌, ◌≤◌, length, map, drop, vec_len, vec_capacity}
use Rattle.pg_wire.specs.Stream.{joined}
use Rattle.pg_config.specs.Writing.{block_with_count}
use Rattle.pg_outcfg.specs.Frames.{effective_of}
use Rattle.pg_outcfg.proofs.config.add_effective.Given as goal

abbrev pub invariant-loop-key : goal.invariant-loop-key
invariant-loop-key l = record {
  bytes : l.frame.items ++ joined (map (block_with_count l.count) (effective_of l.listed (drop l.key-index l.members))) ≡ l.fn.frame.items ++ joined (map (block_with_count l.count) (effective_of l.listed l.members));
  room : vec_capacity l.fn.frame ≤ vec_capacity l.frame;
  fits : vec_len l.frame + length (joined (map (block_with_count l.count) (effective_of l.listed (drop l.key-index l.members)))) ≤ vec_capacity l.frame;
}
