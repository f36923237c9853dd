use Rattle.std.proofs.Common.{◌≡◌, []}
use Rattle.pg_shared.specs.Delivery.{Delivers, HasHeard}
use Rattle.pg_laws.specs.Fed.{IsFed}
use Rattle.pg_gateway.specs.State.{opening}
use Rattle.pg_gateway.specs.Histories.{Legal}
use Rattle.pg_shared.specs.Sharing.{history_of}
use Rattle.pg_shared.specs.Onward.{GoesOn}
use Rattle.pg_laws.specs.Since.{Connects}
use Rattle.pg_laws.proofs.service.serve_calls.Given as goal

abbrev pub invariant-calls : goal.invariant-calls
invariant-calls g l = record {
  fed : IsFed l.session;
  sub : l.session.sub ≡ l.fn.sub;
  delivers : Delivers l.fn.sub l.fn.gate l.gate [] l.session.left (g.W.Write.contents l.fn.writer) (g.W.Write.contents l.writer);
  heard : HasHeard l.fn.sub l.session l.fn.gate l.gate (g.R.Read.remaining l.fn.reader) (g.R.Read.remaining l.reader);
  connects : Connects l.fn.sub l.fn.gate l.initial.gate;
  legal : Legal opening (history_of l.gate.seen);
  since : Delivers l.fn.sub l.initial.gate l.gate [] l.session.left (g.W.Write.contents l.fn.writer) (g.W.Write.contents l.writer);
  heard_since : HasHeard l.fn.sub l.session l.initial.gate l.gate (g.R.Read.remaining l.fn.reader) (g.R.Read.remaining l.reader);
  onward : GoesOn l.fn.gate l.gate;
}
