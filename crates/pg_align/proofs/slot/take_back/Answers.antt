use Rattle.pg_align.proofs.slot.take_back.Goals as goal

pub returns-then-lent-clause-free : goal.returns-then-lent-clause-free
returns-then-lent-clause-free c places h = c.give_back.ensures.free places (rw c.if-lent.true at h)
