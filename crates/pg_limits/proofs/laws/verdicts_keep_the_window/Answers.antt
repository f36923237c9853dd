use Rattle.pg_limits.proofs.Verdicts.{verdicts_keep_the_window}
use Rattle.pg_limits.proofs.laws.verdicts_keep_the_window.Goals as goal

pub returns : goal.returns
returns c = verdicts_keep_the_window
