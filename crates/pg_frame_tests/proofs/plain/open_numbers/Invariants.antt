use Rattle.std.proofs.Common.{◌≡◌, take, reverse}
use Rattle.pg_align.specs.Histories.{open_numbers}
use Rattle.pg_frame_tests.proofs.plain.open_numbers.Given as goal

abbrev pub invariant-loop-arrival : goal.invariant-loop-arrival
invariant-loop-arrival l = l.numbers.items ≡ open_numbers l.last (reverse (take l.arrival-index l.arrivals))
