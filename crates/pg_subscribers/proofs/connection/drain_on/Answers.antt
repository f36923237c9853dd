use Rattle.std.proofs.Common.{◌∙◌, refl}
use Rattle.pg_shared.proofs.Sessions.{runs_join}
use Rattle.pg_subscribers.proofs.Own.{own_nil, own_more, own_as}
use Rattle.pg_subscribers.proofs.Running.{nothing_read, ran_none}
use Rattle.pg_subscribers.proofs.connection.drain_on.Goals as goal

pub drains-preserved : goal.drains-preserved
drains-preserved g c = record {
  heard = c.serve_once-end.ensures.heard;
  sub = c.serve_once-end.ensures.sub ∙ c.drains.invariant.sub;
  own = own_more _ _ _ _ c.drains.invariant.own (own_as _ _ _ _ c.drains.invariant.sub c.serve_once-end.ensures.own);
  ran = λ r. runs_join _ _ _ _ _ _ _ _ _ _ _ _ (c.drains.invariant.ran r) (nothing_read _ _ _ _ _ _ c.serve_once-end.ensures.ran r);
}

pub drains-init : goal.drains-init
drains-init g c = record {
  heard = c.requires.heard;
  sub = refl;
  own = own_nil _ _;
  ran = λ r. ran_none _ r _ _;
}
