use Rattle.std.proofs.Common.{◌≡◌, ℕ, ◌+◌, ◌*◌, ◌≤◌, length, map, drop}
use Rattle.pg_wire.specs.Stream.{joined}
use Rattle.pg_config.specs.Writing.{block_with_count}
use Rattle.pg_outcfg.specs.Frames.{effective_of}
use Rattle.pg_outcfg.proofs.config.effective_len.Given as goal

abbrev pub invariant-loop-key : goal.invariant-loop-key
invariant-loop-key l = record {
  few : l.blocks ≤ l.key-index;
  small : l.len ≤ 2000 * l.key-index;
  number : l.blocks + length (effective_of l.listed (drop l.key-index l.members)) ≡ length (effective_of l.listed l.members);
  counted : (count : ℕ) → l.len + length (joined (map (block_with_count count) (effective_of l.listed (drop l.key-index l.members)))) ≡ length (joined (map (block_with_count count) (effective_of l.listed l.members)));
}
