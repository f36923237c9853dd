use Rattle.std.proofs.Common.{◌≡◌, ◌+◌, ◌<◌, ◌^◌, length, drop}
use Rattle.std.specs.List.{flat_map}
use Rattle.pg_ring.specs.Shown.{saturated}
use Rattle.pg_ring.proofs.queue.OutQueue.reply_bytes.Given as goal

-- what was counted, and what is still to count
abbrev pub invariant-loop-i : goal.invariant-loop-i
invariant-loop-i l =
    (saturated (l.bytes + length (flat_map (λ piece. piece) (drop l.i l.self.replies)))
    ≡ saturated (length (flat_map (λ piece. piece) l.self.replies)))
    × (l.bytes < 2 ^ 64)
