use Rattle.std.proofs.Common.{◌≡◌, length, drop}
use Rattle.pg_session.specs.Events.{samples_at}
use Rattle.pg_session.specs.Streams.{placed}
use Rattle.pg_session.proofs.arriving.has_placed.Given as goal

abbrev pub invariant-loop-place : goal.invariant-loop-place
invariant-loop-place l =
    length (placed l.definition.members l.frame.quality (samples_at l.frame l.places))
    ≡ length (placed l.definition.members l.frame.quality (samples_at l.frame (drop l.place-index l.places)))
