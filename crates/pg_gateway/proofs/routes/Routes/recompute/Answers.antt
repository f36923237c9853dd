use Rattle.std.proofs.Common.{arith}
use Rattle.pg_gateway.proofs.RouteLaws.{masks_turn}
use Rattle.pg_gateway.proofs.routes.Routes.recompute.Goals as goal

pub loop-key-preserved : goal.loop-key-preserved
loop-key-preserved c =
    let inv = c.loop-key.invariant in
    record {
      masks = masks_turn c.args.subs.now.entries c.list-key-items.result.now c.loop-key.self-inside.masks.items c.push_reserved.new.self.items c.loop-key.key-index c.key-item.result c.key-item.result c.mask_of.result c.loop-key-test.true c.key-item.is inv.masks c.push_reserved.ensures.items c.mask_of.ensures.mask;
      few = omega (arith, inv.few, c.push_reserved.ensures.len);
      room = omega (arith, inv.room, c.push_reserved.ensures.capacity);
    }
