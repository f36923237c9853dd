use Rattle.std.proofs.Common.{reverse}
use Rattle.pg_frame_tests.proofs.Slow.{parts_so_far}
use Rattle.pg_frame_tests.proofs.plain.PlainAlign.parts_for.Goals as goal

pub loop-place-preserved : goal.loop-place-preserved
loop-place-preserved c =
    let arrivals = reverse c.self.inside.arrivals.items in
    rw (c.in_ok-push.ensures.items, c.loop-place.invariant, c.arrived.ensures, c.deref.ensures.value) (parts_so_far arrivals c.args.slot c.loop-place.place)
