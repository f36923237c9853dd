use Rattle.pg_gateway.proofs.PlainLaws.{asked_plain}
use Rattle.pg_gateway.proofs.slot.SubscriberSlot.ask.Goals as goal

pub returns-clause-plain : goal.returns-clause-plain
returns-clause-plain c = asked_plain c.args.event c.take-reply.result c.args.what c.requires.noted c.take-reply.ensures.buffer
