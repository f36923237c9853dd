use Rattle.std.proofs.Common.{rules}
use Rattle.pg_turn.specs.Turns.{Called}
use Rattle.pg_laws.proofs.Pairs.{both_stand}
use Rattle.pg_laws.proofs.turn.call_both.Goals as goal

pub returns-clause-both : goal.returns-clause-both
returns-clause-both g c = let split = c.split-one.result in let got = c.join-one.result in
    let one : Called g.M.Machine.may split.0 c.args.first got.0.1 got.0.0 = search rules in
    let two : Called g.M.Machine.may split.1 c.args.second got.1.1 got.1.0 = search rules in
    both_stand g.M.Machine.may split.0 got.0.0 split.1 got.1.0 c.args.first got.0.1 c.args.second got.1.1 c.join.result.seen one two c.join.ensures.seen c.join.ensures.apart
