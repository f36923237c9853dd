use Rattle.pg_stream.proofs.Within.{decides_limits}
use Rattle.pg_stream.proofs.laws.limits_are_tested.Goals as goal

pub returns : goal.returns
returns c = record { tested = decides_limits }
