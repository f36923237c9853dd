use Rattle.std.proofs.Common.{◌+◌, ◌≤◌, refl, arith}
use Rattle.pg_config.specs.Parts.{data_lens}
use Rattle.pg_data.proofs.Blocks.{place_long, place_within}
use Rattle.pg_data.proofs.frame.place_in.Goals as goal

pub returns-clause-order : goal.returns-clause-order
returns-clause-order c =
    let long : c.start.result + 6 ≤ c.start-2.result =
    place_long c.args.config.now.parts c.args.i c.start.result c.start-2.result c.requires c.start.ensures c.start-2.ensures in
    omega arith

pub returns-clause-within : goal.returns-clause-within
returns-clause-within c = place_within c.args.config.now.parts c.args.i c.start-2.result (data_lens c.args.config.now.parts) refl c.start-2.ensures
