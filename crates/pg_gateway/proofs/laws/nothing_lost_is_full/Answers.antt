use Rattle.pg_gateway.specs.State.{opening}
use Rattle.pg_gateway.proofs.AnswerLaws.{lossless_full}
use Rattle.pg_gateway.proofs.RunLaws.{full_history}
use Rattle.pg_gateway.proofs.laws.nothing_lost_is_full.Goals as goal

pub returns : goal.returns
returns c = record {
  one = lossless_full;
  answers = λ h legal full. (full_history opening h legal full).0;
  state = λ h legal full. (full_history opening h legal full).1;
}
