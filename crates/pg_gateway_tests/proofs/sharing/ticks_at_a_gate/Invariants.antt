use Rattle.pg_gateway_tests.proofs.sharing.ticks_at_a_gate.Given as goal

abbrev pub ghosts-ticks_by : goal.ghosts-ticks_by
ghosts-ticks_by g a = record { table = a.gateway.now }
