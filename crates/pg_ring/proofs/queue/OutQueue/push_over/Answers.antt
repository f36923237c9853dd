use Rattle.std.proofs.Common.{arith}
use Rattle.std.proofs.lemmas.Grind.{common_steps}
use Rattle.std.proofs.lemmas.List.{length-map}
use Rattle.pg_ring.proofs.Numbering.{Shows-push}
use Rattle.pg_ring.proofs.queue.OutQueue.push_over.Goals as goal

pub returns-then-len-self-clause-dropped : goal.returns-then-len-self-clause-dropped
returns-then-len-self-clause-dropped c = grind (arith, common_steps)

pub returns-then-len-self-clause-shown : goal.returns-then-len-self-clause-shown
returns-then-len-self-clause-shown c = grind (arith, common_steps)

pub returns-then-len-self-clause-numbered : goal.returns-then-len-self-clause-numbered
returns-then-len-self-clause-numbered c m h =
    Shows-push c.args.self.now _ m c.args.frame.items _ (returns-then-len-self-clause-shown c) (returns-then-len-self-clause-dropped c) h

pub returns-clause-dropped : goal.returns-clause-dropped
returns-clause-dropped c = rw (← c.self.view_is, length-map, length-map) c.push_frame-dropped.ensures.dropped

pub returns-clause-shown : goal.returns-clause-shown
returns-clause-shown c = grind (arith, common_steps)

pub returns-clause-numbered : goal.returns-clause-numbered
returns-clause-numbered c m h = Shows-push c.args.self.now _ m c.args.frame.items _ (returns-clause-shown c) (returns-clause-dropped c) h
