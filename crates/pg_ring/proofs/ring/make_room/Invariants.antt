use Rattle.std.proofs.Common.{◌≡◌, ℕ, ◌≤◌, length}
use Rattle.pg_ring.specs.Shown.{bytes_in, HaveBytes}
use Rattle.pg_ring.specs.Steps.{room}
use Rattle.pg_ring.specs.Items.{shown}
use Rattle.pg_ring.proofs.ring.make_room.Given as goal

-- what is left to do gives what the whole gives
abbrev pub invariant-loop-held : goal.invariant-loop-held
invariant-loop-held l = record {
  same_room : (size : ℕ) → room size l.limit l.passed (shown l.frames.items) ≡ room size l.limit 0 (shown l.fn.frames.items);
  whole : length l.frames.items ≡ length l.fn.frames.items → l.frames.items ≡ l.fn.frames.items;
  counted : l.held ≡ bytes_in (shown l.frames.items);
  no_more : length l.frames.items ≤ length l.fn.frames.items;
  have_bytes : HaveBytes (shown l.fn.frames.items) → HaveBytes (shown l.frames.items);
  capacity : l.frames.capacity ≡ l.fn.frames.capacity;
}

abbrev pub decreases-loop-held : goal.decreases-loop-held
decreases-loop-held l = length l.frames.items
