use Rattle.std.proofs.Common.{◌≡◌}
use Rattle.pg_gateway_tests.proofs.records.record_often.Given as goal

abbrev pub invariant-loop : goal.invariant-loop
invariant-loop g l = l.recording.seat.table ≡ l.turns
