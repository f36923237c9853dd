use Rattle.std.proofs.Common.{◌≡◌, drop}
use Rattle.std.specs.List.{fold}
use Rattle.pg_service.specs.Lasting.{in_force_after}
use Rattle.pg_service.proofs.edits_in_force.note_all.Given as goal

abbrev pub invariant-done : goal.invariant-done
invariant-done l =
    fold (λ done edit. in_force_after edit done) l.edits.items (drop l.edit-index l.done)
    ≡ fold (λ done edit. in_force_after edit done) l.fn.edits.items l.done
