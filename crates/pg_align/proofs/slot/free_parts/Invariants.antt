use Rattle.std.proofs.Common.{◌≡◌, replicate, None, vec_len, vec_capacity}
use Rattle.pg_align.proofs.slot.free_parts.Given as goal

abbrev pub invariant-loop-place : goal.invariant-loop-place
invariant-loop-place l = (l.parts.items ≡ replicate l._place None) × (vec_len l.parts ≡ l._place) × (vec_capacity l.parts ≡ l.places)
