use Rattle.pg_shared.proofs.Delivering.{delivers_call, hears_call, delivers_meanwhile, delivers_more, hears_more, has_heard_none, has_heard_more}
use Rattle.pg_shared.proofs.laws.deliveries_go_on.Goals as goal

pub returns : goal.returns
returns c = record {
  call = λ end s s' v v' stream given r r' w w' shows served on.
      delivers_call s s' stream given v v' r r' w w' (served stream given shows).ran on;
  heard = λ end s s' v v' stream given r r' w w' shows served on.
      hears_call end s s' stream given v v' r r' w w' (served stream given shows) on;
  meanwhile = delivers_meanwhile;
  joins = delivers_more;
  heard_joins = hears_more;
  heard_none = has_heard_none;
  heard_more = has_heard_more;
}
