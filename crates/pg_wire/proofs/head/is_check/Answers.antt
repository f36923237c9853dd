use Rattle.std.proofs.Common.{arith}
use Rattle.pg_wire.specs.Check.{dividend}
use Rattle.pg_wire.proofs.Remainders.{same_remainder, chk-is}
use Rattle.pg_wire.proofs.head.is_check.Goals as goal

pub returns : goal.returns
returns c = same_remainder (dividend c.args.bytes.now) c.args.crc _ c.requires (chk-is c.args.bytes.now (λ i. omega (arith, c.type_inv.bytes i)))
