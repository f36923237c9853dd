use Rattle.pg_laws.proofs.Counting.{counts_both, counts_own}
use Rattle.pg_laws.proofs.turn.add_both.Goals as goal

pub returns : goal.returns
returns g c = let calls = c.call_both-one.result in let stand = c.call_both-one.ensures.both in record {
  counts_own = counts_own c.args.first c.args.second calls.1 calls.2 calls.0.seen stand;
  counts_both = counts_both c.args.first c.args.second calls.1 calls.2 calls.0.seen stand;
}
