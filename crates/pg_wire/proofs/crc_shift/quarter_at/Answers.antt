use Rattle.std.proofs.Common.{◌+◌, ◌*◌, ◌^◌, sym, subst}
use Rattle.std.proofs.Math.Nat.{one-mul}
use Rattle.pg_wire.specs.Check.{IsRemainder}
use Rattle.pg_wire.proofs.Carrying.{IsRemainder-placed}
use Rattle.pg_wire.proofs.crc_shift.quarter_at.Goals as goal

pub returns : goal.returns
returns c = λ k is.
    let one = c.args.one in
    let n = 8 * c.args.bytes in
    c.quarter.ensures (k + n)
    (IsRemainder-placed 1 one k n c.carried.result is (subst (λ x. IsRemainder (x * 2 ^ n) c.carried.result) (sym (one-mul one)) c.carried.ensures))
    (IsRemainder-placed 2 one k n c.carried-2.result is c.carried-2.ensures)
    (IsRemainder-placed 4 one k n c.carried-3.result is c.carried-3.ensures)
    (IsRemainder-placed 8 one k n c.carried-4.result is c.carried-4.ensures)
