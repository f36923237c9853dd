use Rattle.std.proofs.Common.{◌≡◌, ◌≤◌, ◌+◌, ◌++◌, length, map, drop}
use Rattle.std.specs.Arc.{arc_value}
use Rattle.pg_session.specs.Events.{samples_at}
use Rattle.pg_session.specs.Streams.{placed}
use Rattle.pg_session.specs.Wanted.{piece_of_placed}
use Rattle.pg_session.proofs.copying.copy_members.Given as goal

abbrev pub invariant-loop-place : goal.invariant-loop-place
invariant-loop-place l =
    (l.blocks.items ++ map piece_of_placed (placed l.definition.members (arc_value l.frame).quality (samples_at (arc_value l.frame) (drop l.place-index l.places)))
    ≡ l.fn.blocks.items ++ map piece_of_placed (placed l.definition.members (arc_value l.frame).quality (samples_at (arc_value l.frame) l.places)))
    × (length l.blocks.items ≤ length l.fn.blocks.items + l.place-index)
    × (length l.fn.blocks.items ≤ length l.blocks.items)
    × (l.blocks.capacity ≡ l.fn.blocks.capacity)
