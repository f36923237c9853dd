use Rattle.pg_align.specs.Slots.{head_with}
use Rattle.pg_session.specs.Streams.{slot_frame}
use Rattle.pg_session.proofs.leaving.send_slot.Goals as goal

pub returns-else-is_lost : goal.returns-else-is_lost
unfolding slot_frame
returns-else-is_lost c =
    let sent = c.send.ensures.sends (slot_frame c.args.definition.now c.args.listed.now (head_with c.args.slot c.args.parts.now)) c.data_frame_near.ensures.frame in
    record { sends = rw c.take_spare-spare.ensures at sent }
