use Rattle.std.proofs.Common.{◌≡◌, vec_len}
use Rattle.pg_console.proofs.mailboxes.mailboxes_for.Given as goal

abbrev pub invariant-loop-place : goal.invariant-loop-place
invariant-loop-place g l = (vec_len l.pollers ≡ l._place) × (vec_len l.boxes ≡ l._place)
