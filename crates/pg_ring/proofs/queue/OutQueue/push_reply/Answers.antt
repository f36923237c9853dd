use Rattle.std.proofs.Common.{arith}
use Rattle.pg_ring.proofs.Room.{ring_steps}
use Rattle.pg_ring.proofs.Numbering.{Shows-reply}
use Rattle.pg_ring.proofs.queue.OutQueue.push_reply.Goals as goal

pub returns-clause-shown : goal.returns-clause-shown
returns-clause-shown c = grind (arith, ring_steps)

pub returns-clause-numbered : goal.returns-clause-numbered
returns-clause-numbered c m h = rw (returns-clause-shown c) (Shows-reply c.args.self.now m c.args.frame.items h)
