use Rattle.std.proofs.Common.{◌≡◌, drop}
use Rattle.pg_gateway.specs.Placing.{placed_refusal}
use Rattle.pg_gateway.proofs.blocks.first_refusal.Given as goal

abbrev pub invariant-loop-block : goal.invariant-loop-block
invariant-loop-block l = placed_refusal l.blocks ≡ placed_refusal (drop l.block-index l.blocks)
