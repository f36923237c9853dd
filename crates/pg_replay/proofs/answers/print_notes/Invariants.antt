use Rattle.std.proofs.Common.{take}
use Rattle.std.specs.Io.KnownBytes.{Appends}
use Rattle.pg_serve.specs.Inputs.{all_noted}
use Rattle.pg_replay.specs.Printing.{note_lines}
use Rattle.pg_replay.proofs.answers.print_notes.Given as goal

abbrev pub invariant-loop-note : goal.invariant-loop-note
invariant-loop-note g l = Appends (g.W.Write.contents l.fn.out) (g.W.Write.contents l.out) (note_lines (all_noted (take l.note-index l.notes)))
