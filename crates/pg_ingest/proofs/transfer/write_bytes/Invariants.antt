use Rattle.std.proofs.Common.{◌≤◌, ◌-◌, take, length}
use Rattle.std.specs.Io.KnownBytes.{Appends}
use Rattle.pg_ingest.proofs.transfer.write_bytes.Given as goal

abbrev pub invariant-rest : goal.invariant-rest
invariant-rest g l = record {
  wrote : Appends (g.W.Write.contents l.initial.writer) (g.W.Write.contents l.writer) (take l.sent l.fn.bytes);
  within : l.sent ≤ length l.fn.bytes;
}

abbrev pub decreases-rest : goal.decreases-rest
decreases-rest g l = length l.fn.bytes - l.sent
