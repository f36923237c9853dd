use Rattle.pg_config.proofs.Owned.{own-alone}
use Rattle.pg_config.proofs.laws.own_block_alone.Goals as goal

pub returns : goal.returns
returns c = own-alone
