use Rattle.std.proofs.Common.{◌≡◌, ◌≤◌, ◌++◌, length, drop, replicate}
use Rattle.std.specs.Arc.{arc_value}
use Rattle.pg_data.specs.Pieces.{piece_of}
use Rattle.pg_session.specs.Filling.{count_keeping}
use Rattle.pg_session.proofs.copying.copy_for_each.Given as goal

abbrev pub invariant-loop-s : goal.invariant-loop-s
invariant-loop-s l =
    (l.blocks.items ++ replicate (count_keeping (drop l.s-index l.streams)) (piece_of (arc_value l.frame) l.place)
    ≡ replicate (count_keeping l.streams) (piece_of (arc_value l.frame) l.place))
    × (length l.blocks.items ≤ l.s-index)
    × (l.blocks.capacity ≡ l.fn.blocks.capacity)
