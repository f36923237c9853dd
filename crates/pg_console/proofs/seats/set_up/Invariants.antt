use Rattle.pg_console.proofs.seats.set_up.Given as goal

abbrev pub ghosts-post_all : goal.ghosts-post_all
ghosts-post_all g a = record { table = a.shared.now }
