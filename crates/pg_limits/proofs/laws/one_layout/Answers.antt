use Rattle.pg_limits.proofs.Verdicts.{one_layout}
use Rattle.pg_limits.proofs.laws.one_layout.Goals as goal

pub returns : goal.returns
returns c = one_layout
