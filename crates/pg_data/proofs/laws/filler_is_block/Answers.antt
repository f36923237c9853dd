use Rattle.pg_data.proofs.Fillers.{filler-length, filler-bytes}
use Rattle.pg_data.proofs.laws.filler_is_block.Goals as goal

pub returns-clause-size : goal.returns-clause-size
returns-clause-size c = filler-length

pub returns-clause-octets : goal.returns-clause-octets
returns-clause-octets c = filler-bytes
