use Rattle.std.proofs.Common.{◌<◌, length, arith}
use Rattle.pg_gateway.proofs.Judged.{registered_step, kept_rising}
use Rattle.pg_gateway.proofs.blocks.registered.Goals as goal

pub loop-place-preserved : goal.loop-place-preserved
loop-place-preserved c =
    let inv = c.loop-place.invariant in
    let lt : c.loop-place.place < length c.args.config.now.parts = omega arith in
    record {
      registered = rw c.keep_place.ensures.places (registered_step c.args.registry.now c.args.config.now c.loop-place.place c.loop-place.places.items c.is_registered-there.result lt c.is_registered-there.ensures inv.registered);
      rising = rw c.keep_place.ensures.places (kept_rising c.loop-place.place c.loop-place.places.items c.is_registered-there.result inv.rising);
      few = omega arith;
      room = omega arith;
    }
