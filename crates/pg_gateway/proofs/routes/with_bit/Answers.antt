use Rattle.std.proofs.Common.{w64}
use Rattle.std.proofs.lemmas.Nat.Bits.{bit_at_set_same, bit_at_set_other}
use Rattle.pg_gateway.proofs.routes.with_bit.Goals as goal

pub returns-then-on-clause-bit : goal.returns-then-on-clause-bit
returns-then-on-clause-bit c = rw c.if-on.true (bit_at_set_same w64 c.args.mask c.args.place c.requires.place)

pub returns-then-on-clause-others : goal.returns-then-on-clause-others
returns-then-on-clause-others c = λ j other. bit_at_set_other w64 c.args.mask c.args.place c.requires.place j other
