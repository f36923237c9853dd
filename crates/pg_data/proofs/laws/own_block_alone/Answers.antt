use Rattle.pg_data.proofs.Shares.{shares-agree}
use Rattle.pg_data.proofs.laws.own_block_alone.Goals as goal

pub returns : goal.returns
returns c = shares-agree
