use Rattle.std.proofs.Common.{◌≡◌, ◌+◌, ◌++◌, ◌≤◌, length, map, drop, vec_len, vec_capacity}
use Rattle.std.specs.Map.{values_of}
use Rattle.pg_wire.specs.Stream.{joined}
use Rattle.pg_config.specs.Writing.{block_with_count}
use Rattle.pg_outcfg.specs.Places.{shown}
use Rattle.pg_outcfg.proofs.config.add_listed.Given as goal

abbrev pub invariant-loop-one : goal.invariant-loop-one
invariant-loop-one l = record {
  bytes : l.frame.items ++ joined (map (block_with_count l.count) (values_of (map shown (drop l.one-index l.listed)))) ≡ l.fn.frame.items ++ joined (map (block_with_count l.count) (values_of (map shown l.listed)));
  room : vec_capacity l.fn.frame ≤ vec_capacity l.frame;
  fits : vec_len l.frame + length (joined (map (block_with_count l.count) (values_of (map shown (drop l.one-index l.listed))))) ≤ vec_capacity l.frame;
}
