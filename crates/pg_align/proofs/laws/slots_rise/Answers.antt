use Rattle.pg_align.proofs.Rising.{leaving-rises, flushing-rises}
use Rattle.pg_align.proofs.laws.slots_rise.Goals as goal

pub returns-clause-left : goal.returns-clause-left
returns-clause-left c = leaving-rises

pub returns-clause-flushed : goal.returns-clause-flushed
returns-clause-flushed c = flushing-rises
