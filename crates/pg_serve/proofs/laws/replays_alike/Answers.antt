use Rattle.pg_serve.proofs.Replaying as law
use Rattle.pg_serve.proofs.laws.replays_alike.Goals as goal

pub returns : goal.returns
returns c = law.replays_alike
