use Rattle.pg_wire.proofs.Remainders.{same_remainder}
use Rattle.pg_wire.proofs.laws.one_remainder.Goals as goal

pub returns : goal.returns
returns c = same_remainder
