use Rattle.pg_limits.proofs.Verdicts.{floor_rises}
use Rattle.pg_limits.proofs.laws.floor_rises.Goals as goal

pub returns : goal.returns
returns c = floor_rises
