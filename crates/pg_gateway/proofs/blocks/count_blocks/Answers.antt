use Rattle.std.proofs.Common.{None, length, take, sym, ap, ◌∙◌}
use Rattle.std.proofs.lemmas.List.{take_more}
use Rattle.pg_gateway.specs.Judging.{block_counted}
use Rattle.pg_gateway.specs.Placing.{placed_counted}
use Rattle.pg_registry.specs.Registered.{changed_at}
use Rattle.std.specs.Prelude.{slice_index_or}
use Rattle.pg_gateway.proofs.Counted.{counted-push, length-changed_at}
use Rattle.pg_gateway.proofs.blocks.count_blocks.Goals as goal

pub loop-block-preserved : goal.loop-block-preserved
loop-block-preserved c =
    let inv = c.loop-block.invariant in
    let b = slice_index_or c.args.blocks.now c.loop-block.block-index (0, None) in
    record {
      counted = c.count_block.ensures ∙ ap (λ l. changed_at (block_counted b.1) b.0 l) inv.counted ∙ sym (counted-push c.args.registry.now (take c.loop-block.block-index c.args.blocks.now) b)
          ∙ ap (placed_counted c.args.registry.now) (sym (take_more c.args.blocks.now c.loop-block.block-index (0, None) c.loop-block-test.true));
      len = ap length c.count_block.ensures ∙ length-changed_at (block_counted b.1) b.0 c.loop-block.registry ∙ inv.len;
    }
