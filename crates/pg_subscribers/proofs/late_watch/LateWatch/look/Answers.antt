use Rattle.pg_subscribers.proofs.Own.{own_more}
use Rattle.pg_subscribers.proofs.late_watch.LateWatch.look.Goals as goal

pub places-preserved : goal.places-preserved
places-preserved g c = own_more _ _ _ _ c.places.invariant c.look_at.ensures.own
