use Rattle.std.proofs.Common.{refl, ◌∙◌}
use Rattle.pg_session.proofs.Standings.{same_standing}
use Rattle.pg_session.proofs.subscriber.Subscriber.standing.Goals as goal

pub returns-clause-kept : goal.returns-clause-kept
returns-clause-kept c =
    rw (c.frames_to_leave.ensures.count, c.bytes_to_leave.ensures, c.stream_standing_at.ensures, c.queue-queue.ensures, c.deref.ensures.value, ← c.self.view_is) refl

pub returns-clause-value : goal.returns-clause-value
returns-clause-value c = λ p shows. returns-clause-kept c ∙ same_standing c.args.self.now.own p c.args.place shows
