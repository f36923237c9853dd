use Rattle.pg_align.proofs.Leaving.{leave_all-repeats, leave_all-none, leave_all-ends, flush_all-repeats, flush_all-none}
use Rattle.pg_align.proofs.laws.leaving_repeats.Goals as goal

pub returns-clause-some : goal.returns-clause-some
returns-clause-some c h first e = leave_all-repeats h first e

pub returns-clause-none : goal.returns-clause-none
returns-clause-none c h e = leave_all-none h e

pub returns-clause-ends : goal.returns-clause-ends
returns-clause-ends c h = leave_all-ends h

pub returns-clause-flushed : goal.returns-clause-flushed
returns-clause-flushed c h first e = flush_all-repeats h first e

pub returns-clause-none_open : goal.returns-clause-none_open
returns-clause-none_open c h = flush_all-none h
