use Rattle.std.proofs.Common.{arith}
use Rattle.pg_wire.proofs.Spelled.{frame_is_long}
use Rattle.pg_config.proofs.Spells.{given, given-found, spelled-read}
use Rattle.pg_config.proofs.read.read_config.Goals as goal

pub config_in-requires : goal.config_in-requires
config_in-requires c = frame_is_long c.args.frame.now c.requires

pub returns-clause-found : goal.returns-clause-found
returns-clause-found c = given-found c.config_in.result c.args.frame.now c.requires (λ i. omega (arith, c.type_inv.frame i)) c.config_in.ensures.exact

pub returns-clause-only : goal.returns-clause-only
returns-clause-only c = λ a spelled is. given c.config_in.result c.args.frame.now a c.config_in.ensures.exact (spelled-read c.args.frame.now a spelled is)
