use Rattle.std.proofs.Common.{◌≡◌, length, take}
use Rattle.pg_gateway.specs.Placing.{placed_counted}
use Rattle.pg_gateway.proofs.blocks.count_blocks.Given as goal

abbrev pub invariant-loop-block : goal.invariant-loop-block
invariant-loop-block l = record {
  counted : l.registry ≡ placed_counted l.fn.registry (take l.block-index l.blocks);
  len : length l.registry ≡ length l.fn.registry;
}
