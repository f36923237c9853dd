use Rattle.pg_stream.proofs.Nearest as nearest
use Rattle.pg_stream.proofs.laws.stamps_rise.Goals as goal

pub returns : goal.returns
returns c = record { rise = nearest.stamps_rise }
