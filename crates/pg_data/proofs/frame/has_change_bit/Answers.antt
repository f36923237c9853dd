use Rattle.std.proofs.Common.{◌≡◌, ◌*◌, bit_and, arith}
use Rattle.std.proofs.lemmas.Bool.Decides.{nat_tests}
use Rattle.std.proofs.lemmas.Nat.Bits.{and_pow}
use Rattle.std.specs.Int.{bit_at}
use Rattle.pg_data.proofs.frame.has_change_bit.Goals as goal

pub returns : goal.returns
returns c =
    let masked : bit_and c.args.stat 1024 ≡ bit_at c.args.stat 10 * 1024 = and_pow c.args.stat 10 in
    grind (arith, nat_tests)
