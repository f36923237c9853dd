use Rattle.pg_shared.proofs.Sessions.{runs_join, drained_later}
use Rattle.pg_shared.proofs.laws.serving_goes_on.Goals as goal

pub returns : goal.returns
returns c = record {
  call = λ end v v' r r' w w' p p' served stream given shows. (served stream given shows).ran;
  calls = runs_join;
  drained = drained_later;
}
