use Rattle.pg_limits.proofs.Reader.{read_right}
use Rattle.pg_limits.proofs.laws.read_right.Goals as goal

pub returns : goal.returns
returns c = read_right
