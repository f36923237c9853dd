use Rattle.pg_data.proofs.Sources.{resolution-shared}
use Rattle.pg_data.proofs.laws.one_resolution.Goals as goal

pub returns : goal.returns
returns c = resolution-shared
