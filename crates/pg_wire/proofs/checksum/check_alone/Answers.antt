use Rattle.std.proofs.Common.{[], lit<}
use Rattle.pg_wire.proofs.Remainders.{IsRemainder-start}
use Rattle.pg_wire.proofs.checksum.check_alone.Goals as goal

pub returns : goal.returns
returns c = c.check_more.ensures 0 [] (IsRemainder-start 0 (lit< tt))
