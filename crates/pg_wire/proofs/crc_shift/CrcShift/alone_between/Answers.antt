use Rattle.std.proofs.Common.{◌*◌, ◌^◌, sym, subst, arith}
use Rattle.pg_wire.specs.Check.{IsRemainder}
use Rattle.pg_wire.proofs.Carrying.{IsRemainder-between}
use Rattle.pg_wire.proofs.crc_shift.CrcShift.alone_between.Goals as goal

pub returns : goal.returns
returns c = λ front before past.
    IsRemainder-between front c.args.block.now c.args.before c.carry.result c.args.past (λ i. omega (arith, c.type_inv.block i)) before
    (subst (λ n. IsRemainder (c.args.before * 2 ^ (8 * n)) c.carry.result) (sym c.requires) c.carry.ensures) past
