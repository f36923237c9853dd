use Rattle.pg_align.proofs.Leaving.{all_flushed-first, all_flushed-none}
use Rattle.pg_align.proofs.laws.all_flushed_in_steps.Goals as goal

pub returns-clause-some : goal.returns-clause-some
returns-clause-some c align first e = all_flushed-first align first e

pub returns-clause-none : goal.returns-clause-none
returns-clause-none c align e = all_flushed-none align e
