use Rattle.std.proofs.Common.{◌≡◌, drop}
use Rattle.pg_record.specs.Rows.{is_row}
use Rattle.pg_record.proofs.recording.is_row.Given as goal

abbrev pub invariant-loop-note : goal.invariant-loop-note
invariant-loop-note g l = is_row l.from l.notes ≡ is_row l.next (drop l.note-index l.notes)
