use Rattle.pg_wire.proofs.Splitting.{splits_in, frames_in-only}
use Rattle.pg_wire.proofs.laws.stream_is_split.Goals as goal

pub returns-clause-splits : goal.returns-clause-splits
returns-clause-splits c = splits_in

pub returns-clause-only : goal.returns-clause-only
returns-clause-only c = frames_in-only
