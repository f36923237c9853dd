use Rattle.pg_demo.proofs.run_demo.demo.Given as goal

abbrev pub ghosts-run_all : goal.ghosts-run_all
ghosts-run_all g a = record { table = a.shared.now }
