use Rattle.std.proofs.Common.{◌∙◌}
use Rattle.pg_subscribers.proofs.Own.{own_more, own_as}
use Rattle.pg_subscribers.proofs.port.Port.serve_all.Goals as goal

pub passes-preserved : goal.passes-preserved
passes-preserved g c = record {
  sub = c.pass-passed.ensures.sub ∙ c.passes.invariant.sub;
  own = own_more _ _ _ _ c.passes.invariant.own (own_as _ _ _ _ c.passes.invariant.sub c.pass-passed.ensures.own);
}
