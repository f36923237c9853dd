use Rattle.pg_serve.proofs.Apart as law
use Rattle.pg_serve.proofs.laws.ungranted_bytes_change_nothing.Goals as goal

pub returns : goal.returns
returns c = law.ungranted_unseen
