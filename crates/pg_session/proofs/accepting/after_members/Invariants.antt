use Rattle.std.proofs.Common.{map, drop}
use Rattle.pg_session.specs.Events.{samples_at}
use Rattle.pg_session.specs.Streams.{placed}
use Rattle.pg_session.specs.Wanted.{piece_of_placed}
use Rattle.pg_session.proofs.Going.{PassedSoFar}
use Rattle.pg_session.proofs.accepting.after_members.Given as goal

abbrev pub invariant-loop-place : goal.invariant-loop-place
invariant-loop-place l =
    PassedSoFar l.blocks.items l.next (map piece_of_placed (placed l.definition.members l.frame.quality (samples_at l.frame l.places)))
    (map piece_of_placed (placed l.definition.members l.frame.quality (samples_at l.frame (drop l.place-index l.places)))) l.at
