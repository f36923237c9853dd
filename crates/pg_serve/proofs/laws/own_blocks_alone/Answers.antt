use Rattle.pg_serve.proofs.Isolating.{shared_frame}
use Rattle.pg_serve.proofs.laws.own_blocks_alone.Goals as goal

pub returns : goal.returns
returns c = shared_frame
