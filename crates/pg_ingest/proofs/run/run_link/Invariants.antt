use Rattle.std.proofs.Common.{◌≡◌, ◌<◌, [], length}
use Rattle.pg_ingest.specs.Runs.{wires, Ran}
use Rattle.pg_ingest.proofs.Turns.{Turned}
use Rattle.pg_ingest.proofs.run.run_link.Given as goal

abbrev pub invariant-turns : goal.invariant-turns
invariant-turns g l = record {
  ran : Ran (Turned l.counter) l.fn.link l.link (wires (g.R.Read.remaining l.fn.reader) (g.W.Write.contents l.fn.writer) (g.G.Gate.posts l.fn.gate) (g.G.Gate.takes l.fn.gate))
      (wires (g.R.Read.remaining l.reader) (g.W.Write.contents l.writer) (g.G.Gate.posts l.gate) (g.G.Gate.takes l.fn.gate));
  takes : g.G.Gate.takes l.gate ≡ g.G.Gate.takes l.fn.gate;
  onward : g.G.Gate.goes_on l.fn.gate l.gate;
  room : length l.link.bytes.held < 65535;
  whole : 0 < l.counter → l.link.left ≡ [];
}
