use Rattle.pg_gateway_tests.proofs.services.two_services.Given as goal

abbrev pub ghosts-compare-N-Named : goal.ghosts-compare-N-Named
ghosts-compare-N-Named g a = record { table = a.gateway.now }

abbrev pub ghosts-compare-M-Named : goal.ghosts-compare-M-Named
ghosts-compare-M-Named g a = record { table = a.other_gateway.now }
