use Rattle.std.proofs.Common.{◌≡◌, drop}
use Rattle.pg_lines.specs.Edits.{is_comment}
use Rattle.pg_lines.proofs.edits.is_comment.Given as goal

abbrev pub invariant-loop-byte : goal.invariant-loop-byte
invariant-loop-byte l = is_comment l.line ≡ is_comment (drop l.byte-index l.line)
