use Rattle.std.proofs.Common.{◌≡◌, ℕ, ◌+◌, ◌*◌, ◌≤◌, length, map, drop}
use Rattle.std.specs.Map.{values_of}
use Rattle.pg_wire.specs.Stream.{joined}
use Rattle.pg_config.specs.Writing.{block_with_count}
use Rattle.pg_outcfg.specs.Places.{shown}
use Rattle.pg_outcfg.proofs.config.listed_len.Given as goal

abbrev pub invariant-loop-one : goal.invariant-loop-one
invariant-loop-one l = record {
  small : l.len ≤ 2000 * l.one-index;
  counted : (count : ℕ) → l.len + length (joined (map (block_with_count count) (values_of (map shown (drop l.one-index l.listed))))) ≡ length (joined (map (block_with_count count) (values_of (map shown l.listed))));
}
