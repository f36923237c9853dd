use Rattle.std.proofs.Common.{arith}
use Rattle.pg_outcfg.proofs.Stamping.{IsRemainder-stamped}
use Rattle.pg_outcfg.proofs.stamp_cache.check_of.Goals as goal

pub returns : goal.returns
returns c = λ front up. IsRemainder-stamped front c.args.stamp.now _ _ c.requires.eight (λ i. omega (arith, c.type_inv.stamp i)) up c.requires.alone
