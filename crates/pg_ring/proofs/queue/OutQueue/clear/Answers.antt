use Rattle.std.proofs.Common.{arith}
use Rattle.std.proofs.lemmas.Grind.{common_steps}
use Rattle.pg_ring.proofs.Numbering.{Shows-clear, Shows-cleared}
use Rattle.pg_ring.proofs.queue.OutQueue.clear.Goals as goal

pub returns-clause-count : goal.returns-clause-count
returns-clause-count c = grind (arith, common_steps)

pub returns-clause-shown : goal.returns-clause-shown
returns-clause-shown c = grind (arith, common_steps)

pub returns-clause-numbered : goal.returns-clause-numbered
returns-clause-numbered c m h =
    (rw (returns-clause-shown c) (Shows-clear c.args.self.now m h), Shows-cleared c.args.self.now m _ h (returns-clause-count c))
