use Rattle.std.proofs.Common.{arith}
use Rattle.std.proofs.lemmas.Grind.{common_steps}
use Rattle.pg_ring.proofs.queue.OutQueue.push_behind.Goals as goal

pub returns-clause-one_more : goal.returns-clause-one_more
returns-clause-one_more c = grind (arith, common_steps)

pub returns-clause-shown : goal.returns-clause-shown
returns-clause-shown c = grind (arith, common_steps)
