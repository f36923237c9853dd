use Rattle.pg_limits.proofs.Windowing.{never_misread}
use Rattle.pg_limits.proofs.laws.never_misread.Goals as goal

pub returns : goal.returns
returns c = never_misread
