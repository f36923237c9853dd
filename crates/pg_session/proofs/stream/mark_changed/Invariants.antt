use Rattle.std.proofs.Common.{◌≡◌, take, length}
use Rattle.pg_session.specs.Streams.{effective_in}
use Rattle.pg_session.specs.Changing.{list_after}
use Rattle.pg_session.proofs.stream.mark_changed.Given as goal

abbrev pub invariant-loop-i : goal.invariant-loop-i
invariant-loop-i l = (take l.i l.effective ≡ effective_in (list_after l.listed l.change) (take l.i l.members)) × (length l.effective ≡ length l.members)
