use Rattle.pg_session.proofs.Stamping.{slots-rise, stamps-rise, off-makes_none}
use Rattle.pg_session.proofs.laws.stamps_rise.Goals as goal

pub returns : goal.returns
returns c = record { slots = slots-rise; stamps = stamps-rise; off = off-makes_none }
