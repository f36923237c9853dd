use Rattle.pg_session.proofs.Counting.{list-there, list-back, shape-there, shape-back, list-shape, put-told, removed-told}
use Rattle.pg_session.proofs.laws.changes_are_told.Goals as goal

pub returns : goal.returns
returns c = record {
  list = λ listed other r q. (list-there listed other r q, list-back listed other);
  shape = λ members listed other. (shape-there members listed other, shape-back members listed other);
  flushes = list-shape;
  put = put-told;
  removed = removed-told;
}
