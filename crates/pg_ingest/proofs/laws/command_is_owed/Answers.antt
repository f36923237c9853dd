use Rattle.pg_ingest.proofs.Past.{unanswered_is, owed_is}
use Rattle.pg_ingest.proofs.laws.command_is_owed.Goals as goal

pub returns-clause-unanswered : goal.returns-clause-unanswered
returns-clause-unanswered c = unanswered_is

pub returns-clause-owed : goal.returns-clause-owed
returns-clause-owed c = owed_is
