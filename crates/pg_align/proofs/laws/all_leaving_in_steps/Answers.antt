use Rattle.pg_align.proofs.Leaving.{all_leaving-first, all_leaving-none}
use Rattle.pg_align.proofs.laws.all_leaving_in_steps.Goals as goal

pub returns-clause-some : goal.returns-clause-some
returns-clause-some c align first e = all_leaving-first align first e

pub returns-clause-none : goal.returns-clause-none
returns-clause-none c align e = all_leaving-none align e
