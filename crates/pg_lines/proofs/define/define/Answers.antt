use Rattle.std.proofs.Common.{refl, inr}
use Rattle.pg_lines.proofs.Counts.{too_few}
use Rattle.pg_lines.proofs.define.define.Goals as goal

pub returns-in_default-clause-err : goal.returns-in_default-clause-err
returns-in_default-clause-err c = inr (refl, too_few c.args.args.now c.in_default.len_below)
