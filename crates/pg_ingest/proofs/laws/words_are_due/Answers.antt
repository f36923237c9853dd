use Rattle.pg_ingest.proofs.Serving.{words_due-none, words_due-asked}
use Rattle.pg_ingest.proofs.Again.{again_due}
use Rattle.pg_ingest.proofs.laws.words_are_due.Goals as goal

pub returns-clause-none : goal.returns-clause-none
returns-clause-none c = words_due-none

pub returns-clause-some : goal.returns-clause-some
returns-clause-some c = words_due-asked

pub returns-clause-again : goal.returns-clause-again
returns-clause-again c = again_due
