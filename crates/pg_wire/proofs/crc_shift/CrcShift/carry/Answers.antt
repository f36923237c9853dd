use Rattle.std.proofs.Common.{subst}
use Rattle.pg_wire.specs.CrcShift.{AreQuarters}
use Rattle.pg_wire.proofs.Carrying.{quarters-are}
use Rattle.pg_wire.proofs.crc_shift.CrcShift.carry.Goals as goal

pub returns : goal.returns
returns c = rw (c.from.ensures, c.from-2.ensures, c.from-3.ensures, c.from-4.ensures)
    (quarters-are c.args.self.now c.self.inside.quarters c.args.crc
    (subst (λ n. AreQuarters n c.self.inside.quarters) c.self.view_is c.self.invariant) c.ranges.crc.fits)
