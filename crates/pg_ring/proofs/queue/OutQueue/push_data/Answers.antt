use Rattle.std.proofs.Common.{arith}
use Rattle.pg_ring.proofs.Numbering.{Shows-push}
use Rattle.pg_ring.proofs.queue.OutQueue.push_data.Goals as goal

pub returns-clause-numbered : goal.returns-clause-numbered
returns-clause-numbered c m h = Shows-push c.args.self.now _ m c.args.frame.items 0 c.push_behind.ensures.shown (omega (arith, c.push_behind.ensures.one_more)) h
