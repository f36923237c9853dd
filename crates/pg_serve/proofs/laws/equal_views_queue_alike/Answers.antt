use Rattle.pg_serve.proofs.Isolating.{inputs_isolate}
use Rattle.pg_serve.proofs.laws.equal_views_queue_alike.Goals as goal

pub returns : goal.returns
returns c = inputs_isolate
