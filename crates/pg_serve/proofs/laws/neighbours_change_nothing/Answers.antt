use Rattle.pg_serve.proofs.Neighbours as law
use Rattle.pg_serve.proofs.laws.neighbours_change_nothing.Goals as goal

pub returns : goal.returns
returns c = law.neighbours_change_nothing
