use Rattle.pg_wire.proofs.Stream.{nothing_behind}
use Rattle.pg_wire.proofs.laws.no_frame_begins_another.Goals as goal

pub returns : goal.returns
returns c = nothing_behind
