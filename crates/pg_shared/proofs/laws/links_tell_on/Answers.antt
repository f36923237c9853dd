use Rattle.pg_shared.proofs.Links.{tells_call, tells_none, tells_more, tells_again}
use Rattle.pg_shared.proofs.laws.links_tell_on.Goals as goal

pub returns : goal.returns
returns c = record { call = tells_call; none = tells_none; more = tells_more; again = tells_again }
