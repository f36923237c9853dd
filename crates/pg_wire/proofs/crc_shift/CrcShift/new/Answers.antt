use Rattle.std.proofs.Common.{refl}
use Rattle.pg_wire.proofs.Carrying.{AreQuarters-four}
use Rattle.pg_wire.proofs.crc_shift.CrcShift.new.Goals as goal

pub invariant_of-result : goal.invariant_of-result
invariant_of-result c = AreQuarters-four c.args.bytes c.quarter_at.result c.quarter_at-2.result c.quarter_at-3.result c.quarter_at-4.result
    (c.quarter_at.ensures 0 refl) (c.quarter_at-2.ensures 4 refl) (c.quarter_at-3.ensures 8 refl) (c.quarter_at-4.ensures 12 refl)
