use Rattle.pg_align.proofs.Looking.{look_back}
use Rattle.pg_align.proofs.laws.counts_look_back.Goals as goal

pub returns : goal.returns
returns c = look_back
