use Rattle.pg_outcfg.proofs.Ordered.{joined-same}
use Rattle.pg_outcfg.proofs.data.clear_quality.Goals as goal

pub returns : goal.returns
returns c = joined-same c.args.quality
