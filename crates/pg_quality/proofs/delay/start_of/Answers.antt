use Rattle.pg_quality.proofs.Ranges.{start_fits, start_whole}
use Rattle.std.proofs.Common.{arith}
use Rattle.pg_quality.proofs.delay.start_of.Goals as goal

pub returns-else-range-lt8-clause-within : goal.returns-else-range-lt8-clause-within
returns-else-range-lt8-clause-within c = omega (arith, start_whole c.args.range c.requires, start_fits c.args.range c.requires)
