use Rattle.std.proofs.Common.{arith}
use Rattle.std.specs.Arc.{arc_value}
use Rattle.pg_data.proofs.Spellings.{found_from, only_from}
use Rattle.pg_data.proofs.Shares.{own_from}
use Rattle.pg_data.proofs.read.read_data_over.Goals as goal

pub returns-clause-found : goal.returns-clause-found
returns-clause-found c =
    found_from (arc_value c.args.config.now) c.args.frame.now c.decode_over.result c.requires (λ i. omega (arith, c.type_inv.frame i)) c.decode_over.ensures

pub returns-clause-only : goal.returns-clause-only
returns-clause-only c = only_from (arc_value c.args.config.now) c.args.frame.now c.decode_over.result c.decode_over.ensures

pub returns-clause-own : goal.returns-clause-own
returns-clause-own c = own_from (arc_value c.args.config.now) c.args.frame.now c.decode_over.result c.requires c.decode_over.ensures
