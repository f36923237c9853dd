use Rattle.std.proofs.Common.{◌≡◌, ◌<◌, ◌≤◌, [], length}
use Rattle.pg_ring.specs.Shown.{pieces_of}
use Rattle.pg_ring.proofs.Handing.{Draining}
use Rattle.pg_ring.proofs.queue.OutQueue.drain.Given as goal

-- what is still to be handed out goes on from what was
abbrev pub invariant-loop-len : goal.invariant-loop-len
invariant-loop-len l = record {
  so_far : Draining l.fn.self (length l.fn.buf) l.fn.buf l.self l.buf l.len l.begun l.gap;
  nothing_in_hand : l.len < length l.fn.buf → l.self.rest ≡ [];
  few : l.begun ≤ 1032;
  small : length (pieces_of l.fn.self) ≤ 1032;
}

abbrev pub decreases-loop-len : goal.decreases-loop-len
decreases-loop-len l = length (pieces_of l.self)
