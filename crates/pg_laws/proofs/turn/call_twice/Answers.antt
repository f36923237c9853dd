use Rattle.pg_laws.proofs.Pairs.{in_order}
use Rattle.pg_laws.proofs.turn.call_twice.Goals as goal

pub returns-clause-order : goal.returns-clause-order
returns-clause-order g c = let one = c.call-middle.result in let two = c.call-last.result in
    in_order g.M.Machine.may c.args.seat one.0 two.0 c.args.first one.1 c.args.second two.1 c.call-middle.ensures.call c.call-last.ensures.call
