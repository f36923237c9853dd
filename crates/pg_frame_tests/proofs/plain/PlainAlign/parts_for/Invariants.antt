use Rattle.std.proofs.Common.{◌≡◌, reverse}
use Rattle.pg_align.specs.Histories.{parts_from}
use Rattle.pg_frame_tests.proofs.plain.PlainAlign.parts_for.Given as goal

abbrev pub invariant-loop-place : goal.invariant-loop-place
invariant-loop-place l = l.parts.items ≡ parts_from (reverse l.self-inside.arrivals.items) l.slot 0 l.place
