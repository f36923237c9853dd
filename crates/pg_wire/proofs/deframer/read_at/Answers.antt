use Rattle.std.proofs.Common.{rules, arith}
use Rattle.std.proofs.lemmas.List.{places}
use Rattle.pg_wire.proofs.Placing.{read_behind}
use Rattle.pg_wire.proofs.deframer.read_at.Goals as goal

pub returns-clause-read : goal.returns-clause-read
returns-clause-read g c =
    read_behind _ _ c.read.result c.args.at c.args.bytes.now c.read.new.buf _ (omega (arith, c.requires.within)) (search (rules, places)) (λ i. omega (arith, c.type_inv.bytes i))
    c.read.ensures.bound c.read.ensures.bytes
