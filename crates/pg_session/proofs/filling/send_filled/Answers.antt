use Rattle.std.proofs.Common.{◌≡◌}
use Rattle.pg_align.specs.Slots.{head_with}
use Rattle.pg_outcfg.specs.Listing.{Listing}
use Rattle.pg_outcfg.specs.Ordered.{AreMembers, pieces_in}
use Rattle.pg_session.specs.Streams.{slot_frame}
use Rattle.pg_session.proofs.Filled.{ok_for}
use Rattle.pg_session.proofs.filling.send_filled.Goals as goal

pub returns-else-is_lost : goal.returns-else-is_lost
unfolding slot_frame
returns-else-is_lost c =
    let d = c.args.definition.now in
    let left = head_with c.args.slot (pieces_in c.args.frame.now c.args.order.now) in
    let frame = ok_for (λ (listed : Listing) v. v.items ≡ slot_frame d listed left) (λ listed. AreMembers listed d.members)
    c.data_frame_at_once.result c.data_frame_at_once.ensures.frame c.args.listed.now c.requires.listed in
    let sent = c.send.ensures.sends (slot_frame d c.args.listed.now left) frame in
    record { sends = rw c.take_spare-spare.ensures at sent }
