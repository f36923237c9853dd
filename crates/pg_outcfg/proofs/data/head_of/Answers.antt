use Rattle.std.proofs.Common.{◌++◌, sym, ap₂, arith}
use Rattle.pg_wire.proofs.Slicing.{is_listed}
use Rattle.pg_outcfg.proofs.data.head_of.Goals as goal

pub returns : goal.returns
returns c = sym (ap₂ (λ prefix stamp. prefix ++ stamp) (is_listed 6 c.args.prefix.now (omega (arith, c.type_inv.prefix))) (is_listed 8 c.args.stamp.now (omega (arith, c.type_inv.stamp))))
