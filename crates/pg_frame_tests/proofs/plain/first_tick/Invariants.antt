use Rattle.std.proofs.Common.{◌≡◌, take, reverse}
use Rattle.pg_align.specs.Histories.{first_tick}
use Rattle.pg_frame_tests.proofs.plain.first_tick.Given as goal

abbrev pub invariant-loop-arrival : goal.invariant-loop-arrival
invariant-loop-arrival l = l.first ≡ first_tick (reverse (take l.arrival-index l.arrivals)) l.slot
