use Rattle.pg_run.proofs.running.run_by.Given as goal

abbrev pub ghosts-serve_logged : goal.ghosts-serve_logged
ghosts-serve_logged g a = record { table = a.shared.now }
