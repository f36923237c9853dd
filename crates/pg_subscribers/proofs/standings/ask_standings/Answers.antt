use Rattle.pg_subscribers.proofs.Own.{own_more}
use Rattle.pg_subscribers.proofs.standings.ask_standings.Goals as goal

pub places-preserved : goal.places-preserved
places-preserved g c = own_more _ _ _ _ c.places.invariant c.post_standing-standing.ensures.own
