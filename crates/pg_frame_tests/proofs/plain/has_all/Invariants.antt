use Rattle.std.proofs.Common.{◌≡◌, drop}
use Rattle.pg_align.specs.Histories.{has_all}
use Rattle.pg_frame_tests.proofs.plain.has_all.Given as goal

abbrev pub invariant-loop-place : goal.invariant-loop-place
invariant-loop-place l = has_all (drop l.place l.effective) (drop l.place l.parts) ≡ has_all l.effective l.parts
