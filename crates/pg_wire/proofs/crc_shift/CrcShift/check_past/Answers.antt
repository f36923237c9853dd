use Rattle.std.proofs.Common.{◌*◌, ◌^◌, subst, sym, arith}
use Rattle.pg_wire.specs.Check.{IsRemainder}
use Rattle.pg_wire.proofs.Carrying.{IsRemainder-past}
use Rattle.pg_wire.proofs.crc_shift.CrcShift.check_past.Goals as goal

pub returns : goal.returns
returns c = λ start before old.
    IsRemainder-past start before c.args.block.now c.args.crc c.carry.result c.args.alone (λ i. omega (arith, c.type_inv.block i)) old
    (subst (λ n. IsRemainder (c.args.crc * 2 ^ (8 * n)) c.carry.result) (sym c.requires.len) c.carry.ensures) c.requires.alone
