use Rattle.pg_subscribers.proofs.Own.{own_more}
use Rattle.pg_subscribers.proofs.late_watch.late_of.Goals as goal

pub members-preserved : goal.members-preserved
members-preserved g c = own_more _ _ _ _ c.members.invariant c.post_member-standing.ensures.own
