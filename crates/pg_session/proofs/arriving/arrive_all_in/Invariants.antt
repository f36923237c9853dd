use Rattle.std.proofs.Common.{◌≡◌, ◌<◌, ◌≤◌, length, drop, IsTrue, false}
use Rattle.pg_session.specs.Events.{samples_at}
use Rattle.pg_session.specs.Streams.{placed}
use Rattle.pg_session.proofs.Arrivals.{ArrivedSoFar}
use Rattle.pg_session.proofs.arriving.arrive_all_in.Given as goal

abbrev pub invariant-loop-place : goal.invariant-loop-place
invariant-loop-place l =
    ArrivedSoFar l.slot (placed l.definition.members l.frame.quality (samples_at l.frame l.places))
    (placed l.definition.members l.frame.quality (samples_at l.frame (drop l.place-index l.places)))
    l.fn.align l.align l.fn.output l.output l.fn.blocks.items l.blocks.items
    (drop (length (placed l.definition.members l.frame.quality (samples_at l.frame l.places))) l.fn.blocks.items)
    × (l.blocks.capacity ≡ l.fn.blocks.capacity)
    × (length (placed l.definition.members l.frame.quality (samples_at l.frame (drop l.place-index l.places)))
    ≤ length (placed l.definition.members l.frame.quality (samples_at l.frame l.places)))
    × (IsTrue l.some → 0 < length (placed l.definition.members l.frame.quality (samples_at l.frame l.places)))
    × (l.some ≡ false → placed l.definition.members l.frame.quality (samples_at l.frame l.places)
    ≡ placed l.definition.members l.frame.quality (samples_at l.frame (drop l.place-index l.places)))
