use Rattle.std.proofs.Common.{◌≡◌, ◌<◌, false, [], length, None}
use Rattle.pg_shared.specs.Turned.{HasGivenAll, Turned}
use Rattle.pg_shared.proofs.serve.serve_turns.Given as goal

abbrev pub invariant-turns : goal.invariant-turns
invariant-turns g l = record {
  ran : Turned None false false false l.fn.session l.session (g.R.Read.remaining l.fn.reader) (g.R.Read.remaining l.reader)
      (g.W.Write.contents l.fn.writer) (g.W.Write.contents l.writer) (g.G.Gate.posts l.fn.gate) (g.G.Gate.posts l.gate);
  onward : g.G.Gate.goes_on l.fn.gate l.gate;
  room : length l.session.bytes.held < 65535;
  given : HasGivenAll l.session;
  whole : 0 < l.counter → l.session.left ≡ [];
}
