use Rattle.pg_shared.proofs.Both.{deliver_alike, decided_by_views, delivers_in}
use Rattle.pg_shared.proofs.laws.deliveries_agree.Goals as goal

pub returns : goal.returns
returns c = record { alike = deliver_alike; views = decided_by_views; whole = delivers_in }
