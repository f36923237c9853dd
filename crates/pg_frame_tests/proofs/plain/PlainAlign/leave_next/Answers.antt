use Rattle.std.proofs.Common.{length, reverse, sym}
use Rattle.pg_frame_tests.proofs.Slow.{length-parts}
use Rattle.pg_frame_tests.proofs.plain.PlainAlign.leave_next.Goals as goal

pub has_all-requires : goal.has_all-requires
has_all-requires c =
    let arrivals = reverse c.self.inside.arrivals.items in
    let members = length c.self.inside.effective.items in
    rw (c.deref.ensures.value, c.deref-2.ensures.value, c.in_ok-parts.ensures, ← c.self.view_is) (sym (length-parts arrivals c.index-slot.result.now 0 members))
