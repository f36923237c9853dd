use Rattle.pg_gateway_tests.proofs.services.two_threads.Given as goal

abbrev pub ghosts-serve_two : goal.ghosts-serve_two
ghosts-serve_two g a = record { table = a.gateway.now }
