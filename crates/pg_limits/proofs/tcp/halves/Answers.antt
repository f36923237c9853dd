use Rattle.pg_limits.proofs.Cutting.{halves_are}
use Rattle.pg_limits.proofs.tcp.halves.Goals as goal

pub returns : goal.returns
returns c = halves_are c.args.at c.args.text.now c.split_once.result c.split_once.ensures.cases c.requires
