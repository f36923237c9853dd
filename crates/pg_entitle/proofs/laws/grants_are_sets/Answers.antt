use Rattle.pg_entitle.proofs.Sets.{one_list}
use Rattle.pg_entitle.proofs.laws.grants_are_sets.Goals as goal

pub returns : goal.returns
returns c = record { same = one_list }
