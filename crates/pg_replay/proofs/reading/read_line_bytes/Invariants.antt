-- It only appends to the vector, and has appended no `byte` so far.
use Rattle.std.proofs.Common.{◌≡◌, ◌≢◌, ◌≤◌, All, length, drop, vec_len, vec_items}
use Rattle.std.specs.Io.{StartsWith}
use Rattle.std.specs.Io.KnownBytes.{Consumes}
use Rattle.pg_replay.proofs.reading.read_line_bytes.Given as goal

abbrev pub invariant-turns : goal.invariant-turns
invariant-turns g l = (l.start ≡ vec_len l.initial.buf) × (l.start ≤ vec_len l.buf) × StartsWith (vec_items l.buf) (vec_items l.initial.buf)
    × All (λ x. x ≢ 10) (drop (length (vec_items l.initial.buf)) (vec_items l.buf))
    × Consumes (g.B.Read.remaining l.initial.reader) (g.B.Read.remaining l.reader) (drop (length (vec_items l.initial.buf)) (vec_items l.buf))
