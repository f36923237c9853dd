use Rattle.std.proofs.Common.{◌≡◌, ◌≤◌, ◌*◌, ◌++◌, length, drop}
use Rattle.std.specs.Arc.{arc_value}
use Rattle.pg_session.specs.Events.{samples_at}
use Rattle.pg_session.specs.Wanted.{all_wanted}
use Rattle.pg_session.proofs.copying.copy_blocks.Given as goal

abbrev pub invariant-loop-s : goal.invariant-loop-s
invariant-loop-s l =
    (l.blocks.items ++ all_wanted (drop l.s-index l.streams) (arc_value l.frame).quality (samples_at (arc_value l.frame) l.places)
    ≡ all_wanted l.streams (arc_value l.frame).quality (samples_at (arc_value l.frame) l.places))
    × (length l.blocks.items ≤ l.s-index * 16)
    × (l.blocks.capacity ≡ l.fn.blocks.capacity)
