use Rattle.pg_wire.proofs.Carrying.{quarter-is}
use Rattle.pg_wire.proofs.crc_shift.quarter.Goals as goal

pub returns : goal.returns
returns c = λ k ones twos fours eights. quarter-is c.args.ones c.args.twos c.args.fours c.args.eights k ones twos fours eights
