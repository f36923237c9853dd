use Rattle.pg_ring.proofs.Fates.{queued_gaps, begun_gaps}
use Rattle.pg_ring.proofs.laws.gaps_count_numbers.Goals as goal

pub returns-clause-queued : goal.returns-clause-queued
returns-clause-queued c = queued_gaps

pub returns-clause-begun : goal.returns-clause-begun
returns-clause-begun c = begun_gaps
