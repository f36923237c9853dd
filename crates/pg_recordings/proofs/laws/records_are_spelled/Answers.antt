use Rattle.pg_recordings.proofs.Recorded as law
use Rattle.pg_recordings.proofs.laws.records_are_spelled.Goals as goal

pub returns : goal.returns
returns c = law.records_are_spelled
