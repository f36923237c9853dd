use Rattle.std.proofs.Common.{◌≡◌, take, reverse}
use Rattle.pg_align.specs.Histories.{arrived}
use Rattle.pg_frame_tests.proofs.plain.arrived.Given as goal

abbrev pub invariant-loop-arrival : goal.invariant-loop-arrival
invariant-loop-arrival l = l.part ≡ arrived (reverse (take l.arrival-index l.arrivals)) l.slot l.place
