use Rattle.std.proofs.Common.{[], ◌-◌, ◌^◌, sym, subst, arith, lit<}
use Rattle.pg_wire.specs.Check.{dividend, IsRemainder}
use Rattle.pg_wire.proofs.Remainders.{IsRemainder-start}
use Rattle.pg_wire.proofs.Slicing.{listed, is_listed}
use Rattle.pg_wire.proofs.checksum.check_head.Goals as goal

pub returns : goal.returns
returns c = subst (λ bs. IsRemainder (dividend bs) c.with_chunk.result) (sym (is_listed 14 c.args.head.now (omega (arith, c.type_inv.head))))
    (c.with_chunk.ensures (2 ^ 16 - 1) (listed 6 0 c.args.head.now) (c.with_six.ensures (2 ^ 16 - 1) [] (IsRemainder-start (2 ^ 16 - 1) (lit< tt))))
