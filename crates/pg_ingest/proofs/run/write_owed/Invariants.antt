use Rattle.std.proofs.Common.{◌≡◌, ℕ, List, Option}
use Rattle.pg_gateway.specs.Posting.{Posted}
use Rattle.pg_ingest.specs.Linking.{words_owed}
use Rattle.pg_ingest.specs.Runs.{wires, RanOn}
use Rattle.pg_ingest.proofs.Stepping.{Takes}
use Rattle.pg_ingest.proofs.Turns.{Begun}
use Rattle.pg_ingest.proofs.run.write_owed.Given as goal

abbrev pub invariant-owed : goal.invariant-owed
invariant-owed g l = record {
  ran : (r : Option (List ℕ)) (p : Option (List Posted)) (t : Takes) → RanOn Begun l.fn.link l.link (wires r (g.W.Write.contents l.initial.writer) p t) (wires r (g.W.Write.contents l.writer) p t);
  held : l.link.bytes ≡ l.fn.link.bytes;
}

abbrev pub decreases-owed : goal.decreases-owed
decreases-owed g l = words_owed l.link
