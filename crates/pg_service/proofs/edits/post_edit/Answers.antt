use Rattle.std.proofs.Common.{subst}
use Rattle.pg_gateway.specs.GatewayEvents.{told}
use Rattle.pg_gateway.specs.Posting.{Notes, posted_if}
use Rattle.pg_service.proofs.Taken.{posts_edit}
use Rattle.pg_service.proofs.edits.post_edit.Goals as goal

pub returns-in-Refused : goal.returns-in-Refused
returns-in-Refused g c =
    let takes = g.G.Gate.takes c.args.gate.now in
    let posted = subst (λ o. Notes (g.G.Gate.posts c.args.gate.now) (g.G.Gate.posts c.post-reply.new.self) (posted_if (takes o) o (told c.post-reply.result)))
    c.event_of.ensures.event c.post-reply.ensures.posted in
    record { posted = (_, posts_edit takes (g.met.G.Gate.frames c.args.gate.now) c.args.edit _ _ _ posted) }
