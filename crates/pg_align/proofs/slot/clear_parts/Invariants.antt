use Rattle.std.proofs.Common.{◌≡◌, replicate, take, None}
use Rattle.pg_align.proofs.slot.clear_parts.Given as goal

abbrev pub invariant-loop-part : goal.invariant-loop-part
invariant-loop-part l = take l.part-index l.parts ≡ replicate l.part-index None
