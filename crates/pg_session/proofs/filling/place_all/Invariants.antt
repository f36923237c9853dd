use Rattle.std.proofs.Common.{◌≤◌, length, drop}
use Rattle.pg_session.specs.Events.{samples_at}
use Rattle.pg_session.specs.Streams.{placed}
use Rattle.pg_session.proofs.Filled.{Placing}
use Rattle.pg_session.proofs.filling.place_all.Given as goal

abbrev pub invariant-loop-place : goal.invariant-loop-place
invariant-loop-place l =
    Placing l.frame (length l.definition.members) (placed l.definition.members l.frame.quality (samples_at l.frame l.places))
    (placed l.definition.members l.frame.quality (samples_at l.frame (drop l.place-index l.places))) l.order l.count
    × (l.count ≤ l.place-index)
