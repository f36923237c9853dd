use Rattle.std.proofs.Common.{◌≡◌, ℕ, List, length, Option}
use Rattle.pg_ingest.specs.Runs.{wires, Ran}
use Rattle.pg_ingest.proofs.Turns.{Posted}
use Rattle.pg_ingest.proofs.run.post_events.Given as goal

abbrev pub invariant-events : goal.invariant-events
invariant-events g l = record {
  ran : (r w : Option (List ℕ)) → Ran Posted l.fn.link l.link (wires r w (g.G.Gate.posts l.initial.gate) (g.G.Gate.takes l.initial.gate))
      (wires r w (g.G.Gate.posts l.gate) (g.G.Gate.takes l.initial.gate));
  takes : g.G.Gate.takes l.gate ≡ g.G.Gate.takes l.initial.gate;
  onward : g.G.Gate.goes_on l.initial.gate l.gate;
  left : l.link.left ≡ l.fn.link.left;
}

abbrev pub decreases-events : goal.decreases-events
decreases-events g l = length l.link.bytes.held
