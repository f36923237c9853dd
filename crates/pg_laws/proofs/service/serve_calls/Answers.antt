use Rattle.std.proofs.Common.{◌≡◌, ◌∙◌, ap, subst, sym, []}
use Rattle.pg_session.specs.Commands.{Hearing}
use Rattle.pg_shared.specs.Continuing.{goes_on_same, goes_on_more}
use Rattle.pg_shared.specs.Delivery.{Delivers}
use Rattle.pg_laws.proofs.Joining.{still_legal, staying}
use Rattle.pg_laws.proofs.service.serve_calls.Goals as goal

pub returns-in_err-session-clause-onward : goal.returns-in_err-session-clause-onward
returns-in_err-session-clause-onward g c = goes_on_same c.args.gate.now

pub returns-in-Closed-clause-heard : goal.returns-in-Closed-clause-heard
returns-in-Closed-clause-heard g c =
    c.deliveries_go_on.ensures.heard_more _ _ _ _ _ _ _ _ _ c.calls.invariant.heard c.serve_at.ensures.hears

pub returns-in-Closed-clause-onward : goal.returns-in-Closed-clause-onward
returns-in-Closed-clause-onward g c =
    goes_on_more c.args.gate.now c.calls.gate c.serve_at.new.gate c.calls.invariant.onward c.serve_at.ensures.onward

pub calls-init : goal.calls-init
calls-init g c =
    let session = c.in_ok-session.session in
    let start = c.connect.new.gate in
    let sub : session.sub ≡ c.args.sub = ap (λ (v : Hearing). v.sub) c.in_ok-session.ensures.state in
    let left : session.left ≡ [] = ap (λ (v : Hearing). v.left) c.in_ok-session.ensures.state in
    let shows = c.in_ok-session.ensures.shows in
    let w = g.W.Write.contents c.args.writer.now in
    let r = g.R.Read.remaining c.args.reader.now in
    record {
      fed = ([], [], shows);
      sub = sub;
      delivers = subst (λ l. Delivers c.args.sub c.args.gate.now start [] l w w) (sym left) (c.connect.ensures.delivers w);
      heard = c.connect.ensures.heard session r sub shows;
      connects = c.connect.ensures.connects;
      legal = c.connect.ensures.connects.legal;
      since = subst (λ l. Delivers c.args.sub start start [] l w w) (sym left)
          (c.deliveries_go_on.ensures.meanwhile c.args.sub start start [] w (staying start) tt);
      heard_since = c.deliveries_go_on.ensures.heard_none c.args.sub session start start r (staying start) sub shows tt;
      onward = c.connect.ensures.onward;
    }

pub calls-preserved : goal.calls-preserved
calls-preserved g c =
    let now = c.serve_at.new in
    let call = subst
    (λ u. Delivers u c.calls.gate now.gate c.calls.session.left now.session.left (g.W.Write.contents c.calls.writer) (g.W.Write.contents now.writer))
    c.calls.invariant.sub c.serve_at.ensures.delivers in
    record {
      fed = c.serve_at.ensures.fed;
      sub = c.serve_at.ensures.sub ∙ c.calls.invariant.sub;
      delivers = c.deliveries_go_on.ensures.joins _ _ _ _ _ _ _ _ _ _ c.calls.invariant.delivers call;
      heard = c.deliveries_go_on.ensures.heard_more _ _ _ _ _ _ _ _ _ c.calls.invariant.heard c.serve_at.ensures.hears;
      connects = c.calls.invariant.connects;
      legal = still_legal c.calls.gate now.gate c.serve_at.ensures.onward c.calls.invariant.legal;
      since = c.deliveries_go_on.ensures.joins _ _ _ _ _ _ _ _ _ _ c.calls.invariant.since call;
      heard_since = c.deliveries_go_on.ensures.heard_more _ _ _ _ _ _ _ _ _ c.calls.invariant.heard_since c.serve_at.ensures.hears;
      onward = goes_on_more c.args.gate.now c.calls.gate now.gate c.calls.invariant.onward c.serve_at.ensures.onward;
    }

pub returns-in-Closed-clause-since : goal.returns-in-Closed-clause-since
returns-in-Closed-clause-since g c =
    let now = c.serve_at.new in
    let call = subst
    (λ u. Delivers u c.calls.gate now.gate c.calls.session.left now.session.left (g.W.Write.contents c.calls.writer) (g.W.Write.contents now.writer))
    c.calls.invariant.sub c.serve_at.ensures.delivers in
    record {
      start = c.connect.new.gate;
      connects = c.calls.invariant.connects;
      legal = still_legal c.calls.gate now.gate c.serve_at.ensures.onward c.calls.invariant.legal;
      delivers = c.deliveries_go_on.ensures.joins _ _ _ _ _ _ _ _ _ _ c.calls.invariant.since call;
      heard = c.deliveries_go_on.ensures.heard_more _ _ _ _ _ _ _ _ _ c.calls.invariant.heard_since c.serve_at.ensures.hears;
    }

pub returns-clause-since : goal.returns-clause-since
returns-clause-since g c = record {
  start = c.connect.new.gate;
  connects = c.calls.invariant.connects;
  legal = c.calls.invariant.legal;
  delivers = c.calls.invariant.since;
  heard = c.calls.invariant.heard_since;
}
