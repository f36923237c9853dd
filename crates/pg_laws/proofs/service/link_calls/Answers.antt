use Rattle.std.proofs.Common.{refl}
use Rattle.pg_ingest.specs.Shown.{beginning}
use Rattle.pg_shared.specs.Continuing.{goes_on_same, goes_on_more}
use Rattle.pg_laws.proofs.service.link_calls.Goals as goal

pub returns-in_err-link-clause-onward : goal.returns-in_err-link-clause-onward
returns-in_err-link-clause-onward g c = goes_on_same c.args.gate.now

pub returns-in-Closed-clause-told : goal.returns-in-Closed-clause-told
returns-in-Closed-clause-told g c =
    c.links_tell_on.ensures.more _ _ _ _ _ _ _ _ _ c.calls.invariant.told c.link_at.ensures.tells

pub returns-in-Closed-clause-onward : goal.returns-in-Closed-clause-onward
returns-in-Closed-clause-onward g c =
    goes_on_more c.args.gate.now c.calls.gate c.link_at.new.gate c.calls.invariant.onward c.link_at.ensures.onward

pub calls-init : goal.calls-init
calls-init g c = record {
  told = c.links_tell_on.ensures.none _ _ _ (beginning c.args.source) c.in_ok-link.ensures.shows (refl, refl);
  onward = goes_on_same c.args.gate.now;
}

pub calls-preserved : goal.calls-preserved
calls-preserved g c = record {
  told = c.links_tell_on.ensures.more _ _ _ _ _ _ _ _ _ c.calls.invariant.told c.link_at.ensures.tells;
  onward = goes_on_more c.args.gate.now c.calls.gate c.link_at.new.gate c.calls.invariant.onward c.link_at.ensures.onward;
}
