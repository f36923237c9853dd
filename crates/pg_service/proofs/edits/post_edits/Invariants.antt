use Rattle.std.proofs.Common.{◌≡◌}
use Rattle.std.specs.Vec.Iter.{into_iter_items}
use Rattle.pg_service.specs.Setting.{PostsEdits}
use Rattle.pg_service.proofs.edits.post_edits.Given as goal

abbrev pub invariant-edits : goal.invariant-edits
invariant-edits g l =
    (goal.iterator-edits g).can_next l.edit-iterator ×
    (goal.iterator-edits g).is_finite l.edit-iterator ×
    PostsEdits l.fn.edits.items (into_iter_items l.edit-iterator) (g.G.Gate.posts l.fn.gate) (g.G.Gate.posts l.gate)
