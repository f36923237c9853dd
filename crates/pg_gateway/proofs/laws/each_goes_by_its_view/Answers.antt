use Rattle.pg_gateway.specs.State.{opening}
use Rattle.pg_gateway.specs.Laws.{after}
use Rattle.pg_gateway.proofs.ViewLaws.{own-run}
use Rattle.pg_gateway.proofs.AnswerLaws.{handed-run}
use Rattle.pg_gateway.proofs.RunLaws.{one_more, own_reply, own_counters, own_standing}
use Rattle.pg_gateway.proofs.laws.each_goes_by_its_view.Goals as goal

pub returns : goal.returns
returns c = record {
  states = λ u es. own-run u opening es tt;
  handed = λ u es. handed-run u opening es tt;
  steps = one_more;
  replies = λ u es x p is. own_reply u (after es) x p is;
  counters = λ u es p is. own_counters u (after es) p is;
  standings = λ u place es p is. own_standing u place (after es) p is;
}
