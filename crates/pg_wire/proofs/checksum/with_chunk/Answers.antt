use Rattle.std.proofs.Common.{arith}
use Rattle.pg_wire.proofs.Slicing.{IsRemainder-eight}
use Rattle.pg_wire.proofs.checksum.with_chunk.Goals as goal

pub returns : goal.returns
returns c = λ start bytes old.
    IsRemainder-eight start bytes c.args.chunk.now c.args.crc _ _ _ _ _ _ _ _ (omega (arith, c.type_inv.chunk)) (λ i. omega (arith, c.type_inv.chunk)) old
    c.remainder_of-7.ensures c.remainder_of-8.ensures c.remainder_of.ensures c.remainder_of-2.ensures
    c.remainder_of-3.ensures c.remainder_of-4.ensures c.remainder_of-5.ensures c.remainder_of-6.ensures
