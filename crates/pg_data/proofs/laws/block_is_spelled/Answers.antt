use Rattle.std.proofs.Common.{add-one}
use Rattle.pg_data.proofs.Blocks.{block_at}
use Rattle.pg_data.proofs.laws.block_is_spelled.Goals as goal

pub returns : goal.returns
returns c = λ parts blocks i h. rw (add-one i) (block_at parts blocks i h)
