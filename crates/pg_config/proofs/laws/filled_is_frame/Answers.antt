use Rattle.std.proofs.Common.{length, map, refl}
use Rattle.pg_wire.specs.Stream.{joined}
use Rattle.pg_config.specs.Writing.{block_with_count}
use Rattle.pg_config.proofs.Copying.{config-framed}
use Rattle.pg_config.proofs.laws.filled_is_frame.Goals as goal

pub returns : goal.returns
returns c = λ kind id soc base rate count parts.
    config-framed kind id soc base rate count (length parts) (length (joined (map (block_with_count count) parts))) parts refl refl
