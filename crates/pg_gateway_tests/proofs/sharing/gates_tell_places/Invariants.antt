use Rattle.pg_gateway_tests.proofs.sharing.gates_tell_places.Given as goal

abbrev pub ghosts-places_by : goal.ghosts-places_by
ghosts-places_by g a = record { table = a.gateway.now }
