use Rattle.pg_shared.specs.Telling.{HasTold}
use Rattle.pg_shared.specs.Onward.{GoesOn}
use Rattle.pg_laws.proofs.service.link_calls.Given as goal

abbrev pub invariant-calls : goal.invariant-calls
invariant-calls g l = record {
  told : HasTold l.fn.source l.link l.fn.gate l.gate (g.R.Read.remaining l.fn.reader) (g.R.Read.remaining l.reader);
  onward : GoesOn l.fn.gate l.gate;
}
