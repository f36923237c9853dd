use Rattle.pg_wire.proofs.Splitting.{frames_in-append}
use Rattle.pg_wire.proofs.laws.split_appends.Goals as goal

pub returns-clause-frames : goal.returns-clause-frames
returns-clause-frames c = λ stream more. (frames_in-append stream more).0

pub returns-clause-rest : goal.returns-clause-rest
returns-clause-rest c = λ stream more. (frames_in-append stream more).1
