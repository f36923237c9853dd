use Rattle.pg_session.proofs.Measuring.{below-base, only-time_end}
use Rattle.pg_session.proofs.laws.only_time_ends.Goals as goal

pub returns : goal.returns
returns c = record { below = below-base; refusal = only-time_end }
