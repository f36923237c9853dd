use Rattle.pg_ring.proofs.Fates.{has_one_fate}
use Rattle.pg_ring.proofs.laws.each_number_has_one_fate.Goals as goal

pub returns : goal.returns
returns c = has_one_fate
