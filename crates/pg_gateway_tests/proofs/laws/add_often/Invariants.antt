use Rattle.std.proofs.Common.{◌≡◌}
use Rattle.pg_gateway_tests.proofs.laws.add_often.Given as goal

abbrev pub invariant-loop : goal.invariant-loop
invariant-loop g l = l.seat.table ≡ l.turns
